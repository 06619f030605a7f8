-- The judge that is made of a judge, a scale and one cost of that scale, the ceiling.
use Rattle.std.specs.Prelude.{◌≡◌, false, ◌||◌}
use Rattle.sheets.specs.Judging.{Judging}
use Rattle.sheets.specs.Scaling.{Scaling}

-- the count of the judge below; of the sheets that it allows, those whose cost the ceiling is not below; and what it calls dead,
-- or whose floor the ceiling is below
abbrev pub with_ceiling : {C : Type 0} → Judging → Scaling C → C → Judging
with_ceiling j s ceiling = record {
  count = j.count;
  allows = λ z. j.allows z × (s.below ceiling (s.cost z) ≡ false);
  dead = λ p a. j.dead p a || s.below ceiling (s.floor p a);
}
