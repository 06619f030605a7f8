-- What an order over a judge with a ceiling answers.
use Rattle.std.specs.Prelude.{◌≡◌, ℕ, if◌then◌else◌, List, Some, None, Option}
use Rattle.sheets.specs.Sheets.{Sheet}
use Rattle.sheets.specs.Judging.{Judging}
use Rattle.sheets.specs.Scaling.{Scaling}
use Rattle.sheets.specs.Ceilings.{with_ceiling}
use Rattle.orders.specs.declared.acts.Act.{Act}
use Rattle.orders.specs.declared.calls.Call.{Call}
use Rattle.orders.specs.declared.calls.Call.TheVariants.{Settle}
use Rattle.orders.specs.declared.calls.Answer.{Answer}
use Rattle.orders.specs.declared.calls.Answer.TheVariants.{Final}
use Rattle.orders.specs.declared.calls.Event.{Event}
use Rattle.orders.specs.Acts.{under}
use Rattle.orders.specs.Best.{Best}
use Rattle.orders.specs.Logs.{docket, calls_of, EventIn, Conducted}

-- the answer, or no sheet where the ceiling is below its cost
abbrev pub cut_off : {C : Type 0} → Scaling C → C → Option (Sheet × C) → Option (Sheet × C)
cut_off s ceiling None = None
cut_off s ceiling (Some a) = if s.below ceiling a.1 then None else Some a

module _ {C : Type 0} (j : Judging) (s : Scaling C) (ceiling : C) where
  -- the answer is that of an order over the judge below, by the same scale and with the same acts, cut off by the ceiling
  pub record CutOff (acts : List Act) (answer : Option (Sheet × C)) : Type 0 where
    -- what is best over the judge below under the acts
    pub whole : Option (Sheet × C)
    pub best : Best (under j acts) s whole
    -- nothing else is
    pub only : (other : Option (Sheet × C)) → Best (under j acts) s other → other ≡ whole
    -- it is answered, cut off by the ceiling
    pub cut : answer ≡ cut_off s ceiling whole

  -- an order over the judge with the ceiling was conducted: its log keeps what every log does, and each settling is cut off
  pub record ConductedBelow (room : ℕ) (calls : List Call) (before after : List (Event C)) : Type 0 where
    pub conducted : Conducted (with_ceiling j s ceiling) s room calls before after
    pub settlings : (r : Answer C) (e : EventIn conducted.events Settle r) → (answer : Option (Sheet × C)) × (r ≡ Final answer) × CutOff (docket j.count (calls_of e.before)) answer
