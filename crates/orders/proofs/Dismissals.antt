-- Dismissing a place: as the code does it, and which sheets then lie before the next place.
use Rattle.std.proofs.Common.{◌≡◌, ℕ, zero, suc, ◌+◌, ◌-◌, ◌^◌, ◌<◌, ◌≤◌, true, false, not, ◌⊎◌, Option, sym, refl, ap, ◌∙◌, inl, inr, ⊎_elim, arith, ap₂, add-one}
use lib.Bits.{bit_or}
use Rattle.std.proofs.lemmas.Bool.{both_ways, cases_lt, cases_Bool, cond_both, cond-true, cond-false}
use Rattle.sheets.specs.Sheets.{width, has}
use Rattle.sheets.specs.laws.Bits.{has_plus_at, lacks_top}
use Rattle.orders.specs.Search.{Search}
use Rattle.orders.specs.Searches.{dismissed}
use Rattle.orders.proofs.Powers.{has_plus, has_minus, minus_below, plus_below, or_plus}

-- at most n marks are decided, and only decided ones are present
pub record Well (n : ℕ) (x : Search) : Type 0 where
  pub few : x.depth ≤ n
  pub low : x.present < 2 ^ x.depth

-- so it is where more marks can be
pub well_wide : (n : ℕ) (x : Search) → n ≤ width → Well n x → Well width x
well_wide n x few well = record { few = omega (arith, well.few); low = well.low }

-- the sheet z agrees with a place that decides k marks, of which those of p are present
abbrev pub Agrees : ℕ → ℕ → ℕ → Type 0
Agrees k p z = (i : ℕ) → i < k → has z i ≡ has p i

-- it lacks the lowest decided mark on which it differs from the place
pub record Precedes (k p z : ℕ) : Type 0 where
  pub mark : ℕ
  pub decided : mark < k
  pub lacks : has z mark ≡ false
  pub there : has p mark ≡ true
  pub agree : (i : ℕ) → i < mark → has z i ≡ has p i

-- it lies before the place of a search
abbrev pub Past : Search → ℕ → Type 0
Past x z = (x.finished ≡ true) ⊎ Precedes x.depth x.present z

-- it lies before a place or within it
abbrev pub UpTo : ℕ → ℕ → ℕ → Type 0
UpTo k p z = Precedes k p z ⊎ Agrees k p z

-- the last absent decision is turned
abbrev pub turned : ℕ → ℕ → Option ℕ → Search
turned k p held = record { depth = suc k; present = p + 2 ^ k; held = held; finished = false }

-- ---- by the last decision, as the code has it

module _ (p last : ℕ) (held : Option ℕ) where
  pub dismissed_present : has p last ≡ true → dismissed last (p - 2 ^ last) held ≡ dismissed (suc last) p held
  dismissed_present e = sym (cond-true (has p last) (dismissed last (p - 2 ^ last) held) (turned last p held) e)

  pub dismissed_absent : has p last ≡ false → record { depth = last + 1; present = bit_or p (2 ^ last); held = held; finished = false } ≡ dismissed (suc last) p held
  dismissed_absent e =
      ap₂ (λ k q. record { depth = k; present = q; held = held; finished = false }) (add-one last) (or_plus last p e)
      ∙ sym (cond-false (has p last) (dismissed last (p - 2 ^ last) held) (turned last p held) e)

-- ---- what it keeps

pub dismissed_held : (k p : ℕ) (held : Option ℕ) → (dismissed k p held).held ≡ held
dismissed_held zero p held = refl
dismissed_held (suc k) p held =
    cond_both (has p k) (dismissed k (p - 2 ^ k) held) (turned k p held) (λ y. y.held ≡ held)
    (λ e. dismissed_held k (p - 2 ^ k) held) (λ e. refl)

pub next_held : (k p : ℕ) (held : Option ℕ) (x : Search) → x ≡ dismissed k p held → held ≡ x.held
next_held k p held x e = sym (ap (λ y. y.held) e ∙ dismissed_held k p held)

pub dismissed_well : (k p : ℕ) (held : Option ℕ) → p < 2 ^ k → Well k (dismissed k p held)
dismissed_well zero p held low = record { few = omega arith; low = omega arith }
dismissed_well (suc k) p held low =
    cond_both (has p k) (dismissed k (p - 2 ^ k) held) (turned k p held) (λ y. Well (suc k) y)
    (λ e. let r = dismissed_well k (p - 2 ^ k) held (minus_below k p low) in record { few = omega (arith, r.few); low = r.low })
    (λ e. record { few = omega arith; low = plus_below k p (lacks_top k p low e) })

-- ---- one decision less

pub precedes_on : (k m p q z : ℕ) → ((i : ℕ) → i < k → has q i ≡ has p i) → k ≤ m → Precedes k p z → Precedes m q z
precedes_on k m p q z same le l = record {
  mark = l.mark;
  decided = omega (arith, l.decided);
  lacks = l.lacks;
  there = same l.mark l.decided ∙ l.there;
  agree = λ i lt. l.agree i lt ∙ sym (same i (omega (arith, l.decided)));
}

-- the last decision is present, and is dropped
module _ (k p z : ℕ) (e : has p k ≡ true) where
  kept : (i : ℕ) → i < k → has (p - 2 ^ k) i ≡ has p i
  kept i lt = has_minus k p i e lt

  undropped : UpTo k (p - 2 ^ k) z → UpTo (suc k) p z
  undropped (inl l) = inl (precedes_on k (suc k) (p - 2 ^ k) p z (λ i lt. sym (kept i lt)) (omega arith) l)
  undropped (inr a) = ⊎_elim
      (λ t. inr (λ i lt. ⊎_elim (λ (lo : i < k). a i lo ∙ kept i lo) (λ hi. let q : i ≡ k = omega arith in ap (has z) q ∙ t ∙ sym e ∙ ap (has p) (sym q)) (cases_lt i k)))
      (λ f. inl (record { mark = k; decided = omega arith; lacks = f; there = e; agree = λ i lt. a i lt ∙ kept i lt }))
      (cases_Bool (has z k))

  dropped : UpTo (suc k) p z → UpTo k (p - 2 ^ k) z
  dropped (inl l) = ⊎_elim
      (λ lo. inl (record {
        mark = l.mark;
        decided = lo;
        lacks = l.lacks;
        there = kept l.mark lo ∙ l.there;
        agree = λ i lt. l.agree i lt ∙ sym (kept i (omega arith));
      }))
      (λ hi. inr (λ i lt. l.agree i (omega arith) ∙ sym (kept i lt)))
      (cases_lt l.mark k)
  dropped (inr a) = inr (λ i lt. a i (omega arith) ∙ sym (kept i lt))

-- it is absent, and is turned
module _ (k p z : ℕ) (held : Option ℕ) (e : has p k ≡ false) where
  unturned : Past (turned k p held) z → UpTo (suc k) p z
  unturned (inl bad) = absurd (both_ways false refl bad)
  unturned (inr l) = ⊎_elim
      (λ lo. inl (record {
        mark = l.mark;
        decided = l.decided;
        lacks = l.lacks;
        there = sym (has_plus k p l.mark lo) ∙ l.there;
        agree = λ i lt. l.agree i lt ∙ has_plus k p i (omega arith);
      }))
      (λ hi. let q : l.mark ≡ k = omega (arith, l.decided) in
      inr (λ i lt. ⊎_elim
      (λ lo. l.agree i (omega arith) ∙ has_plus k p i lo)
      (λ far. let s : i ≡ l.mark = omega (arith, l.decided) in ap (has z) s ∙ l.lacks ∙ sym e ∙ ap (has p) (sym (s ∙ q)))
      (cases_lt i k)))
      (cases_lt l.mark k)

  turning : UpTo (suc k) p z → Past (turned k p held) z
  turning (inl l) = ⊎_elim
      (λ lo. inr (record {
        mark = l.mark;
        decided = l.decided;
        lacks = l.lacks;
        there = has_plus k p l.mark lo ∙ l.there;
        agree = λ i lt. l.agree i lt ∙ sym (has_plus k p i (omega arith));
      }))
      (λ hi. let q : l.mark ≡ k = omega (arith, l.decided) in absurd (both_ways (has p k) e (ap (has p) (sym q) ∙ l.there)))
      (cases_lt l.mark k)
  turning (inr a) = inr (record {
    mark = k;
    decided = omega arith;
    lacks = a k (omega arith) ∙ e;
    there = has_plus_at k p ∙ ap not e;
    agree = λ i lt. a i (omega arith) ∙ sym (has_plus k p i lt);
  })

-- ---- before the next place lies what lay before the dismissed one or within it, and nothing else

pub past_from : (k p z : ℕ) (held : Option ℕ) → Past (dismissed k p held) z → UpTo k p z
past_from zero p z held b = inr (λ i lt. absurd (omega arith))
past_from (suc k) p z held b =
    cond_both (has p k) (dismissed k (p - 2 ^ k) held) (turned k p held) (λ y. Past y z → UpTo (suc k) p z)
    (λ e r. undropped k p z e (past_from k (p - 2 ^ k) z held r))
    (λ e r. unturned k p z held e r)
    b

pub past_to : (k p z : ℕ) (held : Option ℕ) → UpTo k p z → Past (dismissed k p held) z
past_to zero p z held b = inl refl
past_to (suc k) p z held b =
    cond_both (has p k) (dismissed k (p - 2 ^ k) held) (turned k p held) (λ y. Past y z)
    (λ e. past_to k (p - 2 ^ k) z held (dropped k p z e b))
    (λ e. turning k p z held e b)
