-- Acts, the sheets that keep them, and the judge that is held to them.
use Rattle.std.specs.Prelude.{◌≡◌, ℕ, Bool, true, false, ◌&&◌, ◌||◌, List, [], ◌∷◌, ◌==◌, nat_lt}
use Rattle.std.specs.List.{list_any}
use Rattle.sheets.specs.Sheets.{Mark, Sheet, width, has, full}
use Rattle.sheets.specs.Judging.{Judging}
use Rattle.orders.specs.declared.acts.Act.{Act}
use Rattle.orders.specs.declared.acts.Act.TheVariants.{Pin, Bar, Strike}

-- how many acts can stand
abbrev pub most_acts : ℕ
most_acts = 32

-- the sheet z has the pinned mark, lacks the barred one, is not the struck one
abbrev pub KeepsAct : Act → Sheet → Type 0
KeepsAct (Pin mark) z = has z mark ≡ true
KeepsAct (Bar mark) z = has z mark ≡ false
KeepsAct (Strike sheet) z = z ≡ sheet → ⊥

-- the sheet z keeps the acts
abbrev pub Keeps : List Act → Sheet → Type 0
Keeps [] z = Unit {0}
Keeps (a ∷ acts) z = KeepsAct a z × Keeps acts z

-- the act pins or bars the mark
abbrev pub pins_or_bars : Mark → Act → Bool
pins_or_bars mark (Pin m) = mark == m
pins_or_bars mark (Bar m) = mark == m
pins_or_bars mark (Strike z) = false

-- the act strikes the sheet
abbrev pub strikes : Sheet → Act → Bool
strikes sheet (Pin m) = false
strikes sheet (Bar m) = false
strikes sheet (Strike z) = sheet == z

-- the part-sheet has the pinned mark absent or the barred one present, or is full and its sheet is the struck one: no sheet
-- within it keeps the act
abbrev pub is_broken_by : Sheet → Sheet → Act → Bool
is_broken_by present absent (Pin mark) = has absent mark
is_broken_by present absent (Bar mark) = has present mark
is_broken_by present absent (Strike sheet) = present == sheet && full present absent

-- the pinned or barred mark is one of the 64; a struck sheet can be any word
abbrev pub in_range : Act → Bool
in_range (Pin mark) = nat_lt mark width
in_range (Bar mark) = nat_lt mark width
in_range (Strike sheet) = true

-- the judge below held to the acts: its allowed sheets that keep them, and what it or an act calls dead
abbrev pub under : Judging → List Act → Judging
under j acts = record {
  count = j.count;
  allows = λ z. j.allows z × Keeps acts z;
  dead = λ p a. j.dead p a || list_any (is_broken_by p a) acts;
}
