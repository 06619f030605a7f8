-- Lemmas; no contract names what stands here. The laws of a table.
use Rattle.std.specs.Prelude.{◌≡◌, ℕ, ◌^◌, ◌<◌, ◌≤◌, true, List, ◌==◌, bit_and, nat_eq}
use Rattle.std.proofs.Common.{sym, ap, ◌∙◌, ⊎_elim, arith, pow_mono}
use Rattle.std.specs.Int.Bits.{and_lt}
use Rattle.std.proofs.lemmas.Bool.{both_ways, cases_Bool, and_from, and_parts, and_left, not-true, not-false, ltb-true, eqb-true, eq-eqb}
use Rattle.std.proofs.lemmas.List.Folds.{Any-from_list_any, list_any-from_Any}
use Rattle.std.proofs.lemmas.List.Sums.{AllPass-from_list_all}
use Rattle.std.specs.List.{list_all, list_any}
use Rattle.sheets.specs.Sheets.{width, has, Part, Within, Full, Subset, within_count}
use Rattle.sheets.specs.Judging.{JudgeLaws}
use Rattle.sheets.specs.laws.Bits.{has_and, same_marks, below_marks}
use Rattle.sheets.specs.laws.Parts.{apart_from_and, and_from_apart, within_itself, within_full}
use Rattle.orders_tests.specs.Tables.{lies_within, table_of}

-- ---- lying within, as a test

subset_and : (p z : ℕ) → p < 2 ^ width → z < 2 ^ width → Subset p z → bit_and p z ≡ p
subset_and p z u v h = same_marks width (bit_and p z) p (and_lt width p z u v) u
    (λ i lt. has_and p z i ∙ ⊎_elim
    (λ t. and_from (has p i) (has z i) t (h i t) ∙ sym t)
    (λ f. and_left (has p i) (has z i) f ∙ sym f)
    (cases_Bool (has p i)))

and_subset : (p z : ℕ) → bit_and p z ≡ p → Subset p z
and_subset p z e i t = (and_parts (has p i) (has z i) (sym (has_and p z i) ∙ ap (λ q. has q i) e ∙ t)).1

lies : (p a z : ℕ) → Part p a → Within p a z → lies_within p a z ≡ true
lies p a z part w = and_from (bit_and p z == p) (bit_and a z == 0)
    (eq-eqb (bit_and p z) p (subset_and p z part.present_word w.word w.all))
    (eq-eqb (bit_and a z) 0 (and_from_apart width a z part.absent_word w.word w.none))

within : (p a z : ℕ) → z < 2 ^ width → lies_within p a z ≡ true → Within p a z
within p a z word t =
    let b = and_parts (bit_and p z == p) (bit_and a z == 0) t in
    record {
      word = word;
      all = and_subset p z (eqb-true (bit_and p z) p b.0);
      none = apart_from_and a z (eqb-true (bit_and a z) 0 b.1);
    }

-- ---- listed sheets

listed_below : (count z : ℕ) (zs : List ℕ) → list_all (within_count count) zs ≡ true → list_any (nat_eq z) zs ≡ true → z < 2 ^ count
listed_below count z zs h t =
    let (i, y, low, here, same) = Any-from_list_any (nat_eq z) zs t in
    let below : within_count count y ≡ true = rw here at (AllPass-from_list_all (within_count count) zs h i y low) in
    let lt = ltb-true y (2 ^ count) below in
    let e = eqb-true z y same in
    omega arith

listed_lies : (p a z : ℕ) (zs : List ℕ) → lies_within p a z ≡ true → list_any (nat_eq z) zs ≡ true → list_any (lies_within p a) zs ≡ true
listed_lies p a z zs l t =
    let (i, y, low, here, same) = Any-from_list_any (nat_eq z) zs t in
    list_any-from_Any (lies_within p a) zs (i, y, low, here, ap (lies_within p a) (sym (eqb-true z y same)) ∙ l)

module _ (count : ℕ) (few : count ≤ width) (p a : ℕ) (part : Part p a) (every : Full p a) where
  word_below : (z : ℕ) → within_count count z ≡ true → z < 2 ^ width
  word_below z t =
      let wide : 2 ^ count ≤ 2 ^ width = pow_mono {i = count} {j = width} few in
      let lt = ltb-true z (2 ^ count) t in
      omega arith

  full_listed : (zs : List ℕ) → list_all (within_count count) zs ≡ true → list_any (lies_within p a) zs ≡ true → list_any (nat_eq p) zs ≡ true
  full_listed zs h t =
      let (i, y, low, here, lies) = Any-from_list_any (lies_within p a) zs t in
      let below : within_count count y ≡ true = rw here at (AllPass-from_list_all (within_count count) zs h i y low) in
      let same = within_full p a part every y (within p a y (word_below y below) lies) in
      list_any-from_Any (nat_eq p) zs (i, y, low, here, eq-eqb p y (sym same))

-- ---- the laws

module _ (count : ℕ) (zs : List ℕ) (some : 1 ≤ count) (few : count ≤ width) (below : list_all (within_count count) zs ≡ true) where
  table_sound : (p a z : ℕ) → Part p a → (table_of count zs).dead p a ≡ true → Within p a z → (table_of count zs).allows z → ⊥
  table_sound p a z part dead w al =
      let one = list_any (lies_within p a) zs in
      both_ways one (not-true one dead) (listed_lies p a z zs (lies p a z part w) al)

  pub table_laws : JudgeLaws (table_of count zs)
  table_laws = record {
    some = some;
    few = few;
    inside = λ z al. below_marks count z (listed_below count z zs below al);
    sound = table_sound;
    full_dead = λ p a part every dead. table_sound p a p part dead (within_itself p a part);
    full_allowed = λ p a part every alive. full_listed count few p a part every zs below (not-false (list_any (lies_within p a) zs) alive);
  }
