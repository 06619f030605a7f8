-- Lemmas; no contract names what stands here. The closure is one, it is found, and a verdict says one thing.
use Rattle.std.specs.Prelude.{◌≡◌, ℕ, zero, suc, ◌-◌, ◌<◌, Bool, true, false, cond, not, ◌||◌, List, [], ◌∷◌, length, Decides, ◌==◌, ◌≢◌, slice_index_or}
use Rattle.std.proofs.Math.Path.{refl}
use Rattle.std.proofs.Common.{ap, subst, ◌∙◌, ⊎_elim, arith}
use Rattle.std.specs.List.{AllByRecursion}
use Rattle.std.proofs.lemmas.Bool.{both_ways, cases_Bool, cases_order, and_from, and_parts, or_from, or_parts, not-true, eqb-true, eqb-false}
use Rattle.std.proofs.ByRecursion.{Decides-by_and}
use Rattle.judges.specs.declared.verdicts.Verdict.{Verdict}
use Rattle.judges.specs.declared.verdicts.Verdict.TheVariants.{Lawful, Broken, Ungrounded}
use Rattle.sheets.specs.Sheets.{has}
use Rattle.rulefile.specs.Model.{RuleModel}
use Rattle.std.specs.List.{list_all}
use Rattle.judges.specs.Programs.{rule_holds, Satisfies, Horn, reduct, reaches, Obeys, Closure, AnswerSet}
use Rattle.judges.specs.Rounds.{round}
use Rattle.judges.specs.Books.{obeys, one_below, lawful}
use Rattle.judges.specs.Verdicts.{FirstBroken, FirstUngrounded, Says}
use Rattle.judges.specs.Theorems.{ClosuresStand}
use Rattle.judges.specs.laws.Breaks.{all_at}
use Rattle.judges.specs.laws.Reached.{Underway, underway_none, underway_more, underway_less, underway_closure}
use Rattle.sheets.proofs.Subsets.{subset_le, same_subset}

pub closure_unique : (program : List Horn) (a b : ℕ) → Closure program a → Closure program b → a ≡ b
closure_unique program a b x y = same_subset a b (x.least b y.obeys) (y.least a x.obeys)

module _ (z : ℕ) (program : List RuleModel) where
  -- so many rounds, or as many as add something
  rounds : ℕ → ℕ → ℕ
  rounds zero s = s
  rounds (suc n) s = cond (round z program s == s) s (rounds n (round z program s))

  rounds_close : (n s : ℕ) → z - s < n → Underway z program s → Closure (reduct z program) (rounds n s)
  unfolding rounds
  rounds_close zero s lt w = absurd (omega arith)
  rounds_close (suc n) s lt w =
      go (λ ne. rounds_close n (round z program s) (let h = underway_less z program s (round z program s) refl ne w in omega arith) (underway_more z program s (round z program s) refl w))
      (round z program s == s) refl
    where
      go : ((round z program s ≢ s) → Closure (reduct z program) (rounds n (round z program s)))
          → (b : Bool) → (round z program s == s) ≡ b → Closure (reduct z program) (cond b s (rounds n (round z program s)))
      go rest true q = underway_closure z program s (round z program s) refl (eqb-true _ _ q) w
      go rest false q = rest (eqb-false _ _ q)

  -- each round that adds something adds a mark of z, so z + 1 rounds are enough
  pub closure_found : (s : ℕ) × Closure (reduct z program) s
  closure_found = (rounds (suc z) 0, rounds_close (suc z) 0 (omega arith) (underway_none z program))

-- ---- the test for answer sets

decides_obeys : (s : ℕ) (h : Horn) → Decides (obeys s h) (Obeys s h)
decides_obeys s h = (yes_of (list_all (reaches s) h.body), from (list_all (reaches s) h.body))
  where
    yes_of : (b : Bool) → (not b || has s h.mark) ≡ true → b ≡ true → has s h.mark ≡ true
    yes_of true t e = t
    yes_of false t e = absurd (both_ways false refl e)

    from : (b : Bool) → (b ≡ true → has s h.mark ≡ true) → (not b || has s h.mark) ≡ true
    from true f = f refl
    from false f = refl

decides_all_obey : (s : ℕ) (hs : List Horn) → Decides (list_all (obeys s) hs) (AllByRecursion (Obeys s) hs)
decides_all_obey s hs = Decides-by_and (obeys s) (Obeys s) (list_all (obeys s)) (decides_obeys s) refl (λ _ _. refl) hs

pub obeyed : (s : ℕ) (hs : List Horn) → list_all (obeys s) hs ≡ true → AllByRecursion (Obeys s) hs
obeyed s hs t = (decides_all_obey s hs).0 t

below_none : (test : ℕ → Bool) (n : ℕ) → one_below test n ≡ false → (k : ℕ) → k < n → test k ≡ false
below_none test zero f k lt = absurd (omega arith)
below_none test (suc n) f k lt =
    let g = or_parts (test n) (one_below test n) f in
    ⊎_elim (λ e. ap test e ∙ g.0) (λ o. below_none test n g.1 k (⊎_elim (λ l. l) (λ l. absurd (omega arith)) o)) (cases_order k n)

none_below : (test : ℕ → Bool) (n : ℕ) → ((k : ℕ) → k < n → test k ≡ false) → one_below test n ≡ false
none_below test zero h = refl
none_below test (suc n) h = or_from (test n) (one_below test n) (h n (omega arith)) (none_below test n (λ k lt. h k (omega arith)))

-- the closure lies within z where z satisfies the reduct, so it is z where no smaller word satisfies it
pub lawful_yes : (program : List RuleModel) (z : ℕ) → lawful program z ≡ true → AnswerSet program z
unfolding lawful
lawful_yes program z t =
    let hs = reduct z program in
    let a = and_parts (list_all (rule_holds z) program) _ t in
    let b = and_parts (list_all (obeys z) hs) (not (one_below (λ s. list_all (obeys s) hs) z)) a.1 in
    let c = closure_found z program in
    let le = subset_le c.0 z (c.1.least z ((decides_all_obey z hs).0 b.0)) in
    let is = (decides_all_obey c.0 hs).1 c.1.obeys in
    let same : c.0 ≡ z = ⊎_elim (λ e. e) (λ o. ⊎_elim
    (λ lt. absurd (both_ways (list_all (obeys c.0) hs) (below_none (λ s. list_all (obeys s) hs) z (not-true (one_below (λ s. list_all (obeys s) hs) z) b.1) c.0 lt) is))
    (λ gt. absurd (omega arith)) o) (cases_order c.0 z) in
    record { satisfies = a.0; grounded = subst (Closure hs) same c.1 }

pub lawful_from : (program : List RuleModel) (z : ℕ) → AnswerSet program z → lawful program z ≡ true
unfolding lawful
lawful_from program z a =
    let hs = reduct z program in
    and_from (list_all (rule_holds z) program) _ a.satisfies
    (and_from (list_all (obeys z) hs) (not (one_below (λ s. list_all (obeys s) hs) z)) ((decides_all_obey z hs).1 a.grounded.obeys)
    (ap not (none_below (λ s. list_all (obeys s) hs) z (λ k lt. ⊎_elim
    (λ t. let le = subset_le z k (a.grounded.least k ((decides_all_obey k hs).0 t)) in absurd (omega arith))
    (λ f. f) (cases_Bool (list_all (obeys k) hs))))))

-- ---- the verdicts exclude one another
broken_not : (program : List RuleModel) (z n : ℕ) → FirstBroken program z n → Satisfies z program → ⊥
broken_not program z n b s = go program b.within b.fails s
  where
    go : (l : List RuleModel) → n < length l → ((d : RuleModel) → rule_holds z (slice_index_or l n d) ≡ false) → list_all (rule_holds z) l ≢ true
    go [] lt f h = omega arith
    go (r ∷ rs) lt f h = both_ways (rule_holds z (slice_index_or (r ∷ rs) n r)) (f r) (all_at (rule_holds z) (r ∷ rs) h n lt r)

ungrounded_not : (program : List RuleModel) (z m : ℕ) → FirstUngrounded program z m → AnswerSet program z → ⊥
ungrounded_not program z m u a =
    both_ways (has u.closure m) u.first.outside (ap (λ c. has c m) (closure_unique (reduct z program) u.closure z u.closes a.grounded) ∙ u.first.there)

not_lawful : (program : List RuleModel) (z : ℕ) → (AnswerSet program z → ⊥) → lawful program z ≡ false
not_lawful program z n = ⊎_elim (λ t. absurd (n (lawful_yes program z t))) (λ f. f) (cases_Bool (lawful program z))

pub not_if_broken : (program : List RuleModel) (z n : ℕ) → FirstBroken program z n → lawful program z ≡ false
not_if_broken program z n b = not_lawful program z (λ a. broken_not program z n b a.satisfies)

pub not_if_ungrounded : (program : List RuleModel) (z m : ℕ) → FirstUngrounded program z m → lawful program z ≡ false
not_if_ungrounded program z m u = not_lawful program z (ungrounded_not program z m u)

first_one : (program : List RuleModel) (z m n : ℕ) → FirstBroken program z m → FirstBroken program z n → m ≡ n
first_one program z m n a b = ⊎_elim (λ e. e) (λ o. absurd (⊎_elim (λ lt. clash program m n lt a b) (λ gt. clash program n m gt b a) o)) (cases_order m n)
  where
    clash : (l : List RuleModel) (i j : ℕ) → i < j → FirstBroken l z i → FirstBroken l z j → ⊥
    clash [] i j lt a b = let h = a.within in omega arith
    clash (r ∷ rs) i j lt a b = both_ways (rule_holds z (slice_index_or (r ∷ rs) i r)) (a.fails r) (b.before i lt r)

lowest_one : (program : List RuleModel) (z m n : ℕ) → FirstUngrounded program z m → FirstUngrounded program z n → m ≡ n
lowest_one program z m n a b = ⊎_elim (λ e. e) (λ o. absurd (⊎_elim (λ lt. clash m n lt a b) (λ gt. clash n m gt b a) o)) (cases_order m n)
  where
    clash : (i j : ℕ) → i < j → FirstUngrounded program z i → FirstUngrounded program z j → ⊥
    clash i j lt a b = both_ways (has a.closure i) a.first.outside
        (ap (λ c. has c i) (closure_unique (reduct z program) a.closure b.closure a.closes b.closes) ∙ b.first.before i lt a.first.there)

pub says_one : (program : List RuleModel) (z : ℕ) (v w : Verdict) → Says program z v → Says program z w → v ≡ w
says_one program z Lawful Lawful a b = refl
says_one program z Lawful (Broken n) a b = absurd (broken_not program z n b a.satisfies)
says_one program z Lawful (Ungrounded n) a b = absurd (ungrounded_not program z n b a)
says_one program z (Broken m) Lawful a b = absurd (broken_not program z m a b.satisfies)
says_one program z (Broken m) (Broken n) a b = ap Broken (first_one program z m n a b)
says_one program z (Broken m) (Ungrounded n) a b = absurd (broken_not program z m a b.satisfies)
says_one program z (Ungrounded m) Lawful a b = absurd (ungrounded_not program z m a b)
says_one program z (Ungrounded m) (Broken n) a b = absurd (broken_not program z n b a.satisfies)
says_one program z (Ungrounded m) (Ungrounded n) a b = ap Ungrounded (lowest_one program z m n a b)

pub closures : ClosuresStand
closures = record {
  one = closure_unique;
  some = λ program z. closure_found z program;
  decides = λ program z. (lawful_yes program z, lawful_from program z);
  verdict = says_one;
}
