-- Lemmas; no contract names what stands here. The judge that is held to acts: its laws, and what more acts change.
use Rattle.std.specs.Prelude.{◌≡◌, ℕ, true, false, List, [], ◌∷◌, ◌++◌, Some, None, Option, ◌==◌, refl}
use Rattle.std.proofs.Common.{ap, subst, ◌∙◌, ⊎_elim}
use Rattle.std.proofs.lemmas.Bool.{both_ways, or_cases, or_parts, and_parts, and_cases, eqb-true, eqb-false, ltb-true}
use Rattle.std.specs.List.{list_any, list_all}
use Rattle.sheets.specs.Sheets.{width, has, Part, Within, Full, full}
use Rattle.sheets.specs.Judging.{Judging, JudgeLaws}
use Rattle.sheets.specs.Scaling.{Scaling}
use Rattle.sheets.specs.laws.Parts.{decides_full, within_itself, within_full}
use Rattle.orders.specs.declared.acts.Act.{Act}
use Rattle.orders.specs.declared.acts.Act.TheVariants.{Pin, Bar, Strike}
use Rattle.orders.specs.Acts.{KeepsAct, Keeps, is_broken_by, in_range, under}
use Rattle.orders.specs.Best.{Best, CostsAtMost}
use Rattle.orders.specs.Logs.{Among, Included}

-- ---- no sheet that keeps the acts lies within a part-sheet that they call dead

module _ (p a z : ℕ) (part : Part p a) (within : Within p a z) where
  act_sound : (x : Act) → is_broken_by p a x ≡ true → KeepsAct x z → ⊥
  act_sound (Pin m) t keeps = both_ways (has z m) (within.none m t) keeps
  act_sound (Bar m) t keeps = both_ways (has z m) keeps (within.all m t)
  act_sound (Strike y) t keeps =
      let both = and_parts (p == y) (full p a) t in
      let every : Full p a = (decides_full p a part.present_word part.absent_word).0 both.1 in
      keeps (within_full p a part every z within ∙ eqb-true p y both.0)

  acts_sound : (acts : List Act) → list_any (is_broken_by p a) acts ≡ true → Keeps acts z → ⊥
  acts_sound [] t keeps = both_ways false refl t
  acts_sound (x ∷ acts) t keeps = ⊎_elim
      (λ b. act_sound x b keeps.0)
      (λ b. acts_sound acts b keeps.1)
      (or_cases (is_broken_by p a x) (list_any (is_broken_by p a) acts) t)

-- ---- the sheet of a full part-sheet that they do not call dead keeps them

module _ (p a : ℕ) (part : Part p a) (every : Full p a) where
  act_exact : (x : Act) → in_range x ≡ true → is_broken_by p a x ≡ false → KeepsAct x p
  act_exact (Pin m) low f = ⊎_elim (λ t. t) (λ t. absurd (both_ways (has a m) f t)) (every m (ltb-true m width low))
  act_exact (Bar m) low f = f
  act_exact (Strike y) low f = λ e. ⊎_elim
      (λ n. eqb-false p y n e)
      (λ n. both_ways (full p a) n ((decides_full p a part.present_word part.absent_word).1 every))
      (and_cases (p == y) (full p a) f)

  acts_exact : (acts : List Act) → list_all in_range acts ≡ true → list_any (is_broken_by p a) acts ≡ false → Keeps acts p
  acts_exact [] low f = tt
  acts_exact (x ∷ acts) low f =
      let r = and_parts (in_range x) (list_all in_range acts) low in
      let g = or_parts (is_broken_by p a x) (list_any (is_broken_by p a) acts) f in
      (act_exact x r.0 g.0, acts_exact acts r.1 g.1)

module _ (j : Judging) (acts : List Act) (low : list_all in_range acts ≡ true) (laws : JudgeLaws j) where
  under_sound : (p a z : ℕ) → Part p a → (under j acts).dead p a ≡ true → Within p a z → (under j acts).allows z → ⊥
  under_sound p a z part dead within allowed = ⊎_elim
      (λ d. laws.sound p a z part d within allowed.0)
      (λ b. acts_sound p a z part within acts b allowed.1)
      (or_cases (j.dead p a) (list_any (is_broken_by p a) acts) dead)

  pub under_laws : JudgeLaws (under j acts)
  under_laws = record {
    some = laws.some;
    few = laws.few;
    inside = λ z allowed. laws.inside z allowed.0;
    sound = under_sound;
    full_dead = λ p a part every dead. under_sound p a p part dead (within_itself p a part);
    full_allowed = λ p a part every f.
        let g = or_parts (j.dead p a) (list_any (is_broken_by p a) acts) f in
        (laws.full_allowed p a part every g.0, acts_exact p a part every acts low g.1);
  }

-- ---- more acts

keeps_among : (z : ℕ) (a : Act) (before after : List Act) → Keeps (before ++ (a ∷ after)) z → KeepsAct a z
keeps_among z a [] after keeps = keeps.0
keeps_among z a (b ∷ before) after keeps = keeps_among z a before after keeps.1

keeps_all : (acts : List Act) (z : ℕ) → ((a : Act) → Among a acts → KeepsAct a z) → Keeps acts z
keeps_all [] z h = tt
keeps_all (a ∷ acts) z h = (h a ([], acts, refl), keeps_all acts z (λ b among. h b (a ∷ among.0, among.1, ap (λ l. a ∷ l) among.2)))

pub keeps_fewer : (few many : List Act) (z : ℕ) → Included few many → Keeps many z → Keeps few z
keeps_fewer few many z included keeps =
    keeps_all few z (λ a among. let there = included a among in keeps_among z a there.0 there.1 (subst (λ acts. Keeps acts z) there.2 keeps))

-- the best under more acts costs no less
pub more_acts_best : {C : Type 0} (j : Judging) (s : Scaling C) (few many : List Act) (x y : Option (ℕ × C)) → Included few many → Best (under j few) s x → Best (under j many) s y → CostsAtMost s x y
more_acts_best j s few many None None included b c = tt
more_acts_best j s few many None (Some r) included b c = b r.0 (c.allowed.0, keeps_fewer few many r.0 included c.allowed.1)
more_acts_best j s few many (Some q) None included b c = tt
more_acts_best j s few many (Some q) (Some r) included b c =
    ap (λ d. s.below d q.1) c.its_cost ∙ b.least r.0 (c.allowed.0, keeps_fewer few many r.0 included c.allowed.1)
