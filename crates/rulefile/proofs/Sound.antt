-- What a parser that succeeds has found.
use Rattle.std.proofs.Common.{◌≡◌, ℕ, zero, suc, ◌-◌, ◌%◌, ◌^◌, ◌<◌, ◌≤◌, Bool, true, false, cond, ◌&&◌, ltb, leb, List, [], ◌∷◌, ◌++◌, map, length, take, drop, sym, refl, ap, ◌∙◌, subst, append_assoc, arith}
use Rattle.std.specs.List.{AllByRecursion}
use Rattle.std.proofs.lemmas.Bool.{ltb-true, leb-true, and_parts}
use Rattle.std.proofs.lemmas.List.{take-append-drop, length-take-le, length-drop, length-map}
use Rattle.sheets.specs.Sheets.{width}
use Rattle.sheets.specs.declared.literals.Literal.{Literal}
use Rattle.rulefile.specs.declared.refusals.Refusal.{Refusal}
use Rattle.rulefile.specs.declared.refusals.Refusal.TheVariants.{RecordCut, LengthRange, LengthPastEnd, MarkRange, OutOfRange}
use Rattle.rulefile.specs.declared.constraints.Element.{Element}
use Rattle.rulefile.specs.Ranges.{least_length, most_length, is_length, most_constraints, most_elements, most_clause_literals, most_wish_literals, top_level, is_weight}
use Rattle.rulefile.specs.Model.{WishModel}
use Rattle.rulefile.specs.Parser.{Parse, took, fails, Parser, after, check, bytes, little, field, within, times, end, wholly}
use Rattle.rulefile.specs.Format.{literal, element, constraint, signed_field, tag_field, sheet_field, head_fields, head_body, rule_fields, rule_body, clause_fields, clause_body, wish_fields, wish_body, cut}
use Rattle.rulefile.specs.Laws.{RecordBytes, bytes_of, Framed, LiteralsBelow, ConstraintBelow, RuleBelow}

-- ---- one parser after another

-- both parts have succeeded
pub after_took : {A B : Type 0} {y : B} {rest : List ℕ} (q : Parse A) (f : A → Parser B) → after q f ≡ took y rest → (x : A) × (mid : List ℕ) × (q ≡ took x mid) × (f x mid ≡ took y rest)
after_took (took x mid) f e = (x, mid, refl, e)
after_took (fails why) f e = absurd (cc)

pub check_took : {u : Unit {0}} {rest : List ℕ} (b : Bool) (why : Refusal) (bs : List ℕ) → check b why bs ≡ took u rest → (b ≡ true) × (bs ≡ rest)
check_took true why bs e = (refl, (cc))
check_took false why bs e = absurd (cc)

pub bytes_took : {xs rest : List ℕ} (n : ℕ) (why : Refusal) (bs : List ℕ) → bytes n why bs ≡ took xs rest → (n ≤ length bs) × (xs ≡ take n bs) × (rest ≡ drop n bs)
bytes_took {xs} {rest} n why bs e = go (leb n (length bs)) refl e
  where
    go : (b : Bool) → leb n (length bs) ≡ b → cond b (took (take n bs) (drop n bs)) (fails why) ≡ took xs rest → (n ≤ length bs) × (xs ≡ take n bs) × (rest ≡ drop n bs)
    go true t e = (leb-true n (length bs) t, (cc), (cc))
    go false t e = absurd (cc)

took_value : {A : Type 0} {x y : A} {m n : List ℕ} → took x m ≡ took y n → x ≡ y
took_value e = cc

took_rest : {A : Type 0} {x y : A} {m n : List ℕ} → took x m ≡ took y n → m ≡ n
took_rest e = cc

-- a body that is read is read to its end
pub wholly_ends : {A : Type 0} {x : A} {rest : List ℕ} (p : Parser A) (bs : List ℕ) → wholly p bs ≡ took x rest → rest ≡ []
wholly_ends p bs e =
    let a = after_took (p bs) _ e in
    let b = after_took (end a.1) _ a.3 in
    sym (took_rest b.3) ∙ ends a.1 b.1 b.2
  where
    ends : {u : Unit {0}} (bs mid : List ℕ) → end bs ≡ took u mid → mid ≡ []
    ends [] mid e = cc
    ends (b ∷ bs) mid e = absurd (cc)

-- ---- what holds of whatever a parser takes

abbrev pub Gives : {A : Type 0} → (A → Type 0) → Parse A → Type 0
Gives P (took x rest) = P x
Gives P (fails why) = Unit {0}

pub given : {A : Type 0} {x : A} {rest : List ℕ} {q : Parse A} (P : A → Type 0) → q ≡ took x rest → Gives P q → P x
given P e g = subst (Gives P) e g

pub any : {A : Type 0} (q : Parse A) → Gives (λ _. Unit {0}) q
any (took x rest) = tt
any (fails why) = tt

-- where the first part gives P, and the second gives Q after it, the whole gives Q
gives_after : {A B : Type 0} (P : A → Type 0) (Q : B → Type 0) (q : Parse A) (f : A → Parser B) → Gives P q → ((x : A) (rest : List ℕ) → P x → Gives Q (f x rest)) → Gives Q (after q f)
gives_after P Q (took x rest) f g h = h x rest g
gives_after P Q (fails why) f g h = tt

gives_then : {A B : Type 0} (Q : B → Type 0) (q : Parse A) (f : A → Parser B) → ((x : A) (rest : List ℕ) → Gives Q (f x rest)) → Gives Q (after q f)
gives_then Q q f h = gives_after (λ _. Unit {0}) Q q f (any q) (λ x rest _. h x rest)

gives_check : {B : Type 0} (Q : B → Type 0) (ok : Bool) (why : Refusal) (bs : List ℕ) (f : Unit {0} → Parser B) → (ok ≡ true → (x : Unit {0}) (rest : List ℕ) → Gives Q (f x rest)) → Gives Q (after (check ok why bs) f)
gives_check Q true why bs f h = h refl tt bs
gives_check Q false why bs f h = tt

gives_wholly : {A : Type 0} (P : A → Type 0) (p : Parser A) (bs : List ℕ) → Gives P (p bs) → Gives P (wholly p bs)
gives_wholly P p bs g = gives_after P P (p bs) _ g (λ x rest h. gives_then P (end rest) _ (λ _ _. h))

pub gives_within : (low high : ℕ) (bs : List ℕ) → Gives (λ n. (low ≤ n) × (n ≤ high)) (within low high bs)
unfolding within
gives_within low high bs =
    let P : ℕ → Type 0 = λ n. (low ≤ n) × (n ≤ high) in
    gives_then P (field 1 bs) _ (λ n rest. gives_check P (leb low n && leb n high) OutOfRange rest _
    (λ t _ _. let b = and_parts (leb low n) (leb n high) t in (leb-true low n b.0, leb-true n high b.1)))

pub gives_times : {A : Type 0} (P : A → Type 0) (p : Parser A) → ((bs : List ℕ) → Gives P (p bs)) → (n : ℕ) (bs : List ℕ) → Gives (AllByRecursion P) (times n p bs)
unfolding times
gives_times P p h zero bs = tt
gives_times P p h (suc n) bs = gives_after P (AllByRecursion P) (p bs) _ (h bs)
    (λ x rest px. gives_after (AllByRecursion P) (AllByRecursion P) (times n p rest) _ (gives_times P p h n rest) (λ xs _ pxs. (px, pxs)))

pub gives_length : {A : Type 0} (p : Parser A) (n : ℕ) (bs : List ℕ) → Gives (λ xs. length xs ≡ n) (times n p bs)
unfolding times
gives_length p zero bs = refl
gives_length {A} p (suc n) bs =
    let P : List A → Type 0 = λ xs. length xs ≡ suc n in
    gives_then P (p bs) _ (λ x rest. gives_after (λ xs. length xs ≡ n) P (times n p rest) _ (gives_length p n rest) (λ xs _ h. ap suc h))

-- a number that is read is in its range
pub in_range : {n : ℕ} {rest : List ℕ} (low high : ℕ) (bs : List ℕ) → within low high bs ≡ took n rest → (low ≤ n) × (n ≤ high)
in_range low high bs e = given (λ n. (low ≤ n) × (n ≤ high)) e (gives_within low high bs)

-- as many things are read as a number in its range says; m takes a thing to what it says
pub counted_in_range : {X A : Type 0} {n : ℕ} {mid rest : List ℕ} (low high : ℕ) (bs cs : List ℕ) (p : Parser A) (m : X → A) (xs : List X)
    → within low high bs ≡ took n mid → times n p cs ≡ took (map m xs) rest → (low ≤ length xs) × (length xs ≤ high)
counted_in_range {n = n} low high bs cs p m xs e f =
    let range = in_range low high bs e in
    let as_many : length (map m xs) ≡ n = given (λ ys. length ys ≡ n) f (gives_length p n cs) in
    let as_long = length-map xs m in
    (omega arith, omega arith)

-- ---- marks below the count

gives_literal : (count : ℕ) (bs : List ℕ) → Gives (λ (l : Literal). l.mark < count) (literal count bs)
unfolding literal
gives_literal count bs =
    let P : Literal → Type 0 = λ l. l.mark < count in
    gives_then P (field 1 bs) _ (λ b rest. gives_check P (ltb (b % 128) count) MarkRange rest _ (λ t _ _. ltb-true (b % 128) count t))

pub gives_literals : (count n : ℕ) (bs : List ℕ) → Gives (LiteralsBelow count) (times n (literal count) bs)
gives_literals count = gives_times (λ (l : Literal). l.mark < count) (literal count) (gives_literal count)

gives_element : (count : ℕ) (bs : List ℕ) → Gives (λ (e : Element). e.literal.mark < count) (element count bs)
unfolding element
gives_element count bs =
    let P : Element → Type 0 = λ e. e.literal.mark < count in
    gives_after (λ (l : Literal). l.mark < count) P (literal count bs) _ (gives_literal count bs) (λ l rest low. gives_then P (field 2 rest) _ (λ _ _. low))

pub gives_elements : (count n : ℕ) (bs : List ℕ) → Gives (AllByRecursion (λ (e : Element). e.literal.mark < count)) (times n (element count) bs)
gives_elements count = gives_times (λ (e : Element). e.literal.mark < count) (element count) (gives_element count)

gives_constraint : (count : ℕ) (bs : List ℕ) → Gives (ConstraintBelow count) (constraint count bs)
unfolding constraint
gives_constraint count bs =
    let P : Element → Type 0 = λ e. e.literal.mark < count in
    let Q = ConstraintBelow count in
    gives_then Q (field 4 bs) _ (λ low r. gives_then Q (field 4 r) _ (λ high r. gives_then Q (within 0 most_elements r) _ (λ n r.
    gives_after (AllByRecursion P) Q (times n (element count) r) _ (gives_times P (element count) (gives_element count) n r) (λ es _ h. h))))

gives_rule_fields : (count : ℕ) (bs : List ℕ) → Gives (RuleBelow count) (rule_fields count bs)
unfolding rule_fields
gives_rule_fields count bs =
    let P = ConstraintBelow count in
    let Q = RuleBelow count in
    gives_then Q (within 0 most_constraints bs) _ (λ n r.
    gives_after P Q (constraint count r) _ (gives_constraint count r) (λ h r hh.
    gives_after (AllByRecursion P) Q (times n (constraint count) r) _ (gives_times P (constraint count) (gives_constraint count) n r) (λ ks r hk. (hh, hk))))

pub gives_rule : (count : ℕ) (bs : List ℕ) → Gives (RuleBelow count) (rule_body count bs)
unfolding rule_body
gives_rule count bs = gives_wholly (RuleBelow count) (rule_fields count) bs (gives_rule_fields count bs)

gives_clause_fields : (count : ℕ) (bs : List ℕ) → Gives (LiteralsBelow count) (clause_fields count bs)
unfolding clause_fields
gives_clause_fields count bs = gives_then (LiteralsBelow count) (within 0 most_clause_literals bs) _ (λ n r. gives_literals count n r)

pub gives_clause : (count : ℕ) (bs : List ℕ) → Gives (LiteralsBelow count) (clause_body count bs)
unfolding clause_body
gives_clause count bs = gives_wholly (LiteralsBelow count) (clause_fields count) bs (gives_clause_fields count bs)

abbrev WishBelow : ℕ → WishModel → Type 0
WishBelow count w = LiteralsBelow count w.literals

gives_wish_fields : (tagged : Bool) (count : ℕ) (bs : List ℕ) → Gives (WishBelow count) (wish_fields tagged count bs)
unfolding wish_fields
gives_wish_fields tagged count bs =
    let P = LiteralsBelow count in
    let Q = WishBelow count in
    gives_then Q (within 1 top_level bs) _ (λ level r. gives_then Q (tag_field tagged r) _ (λ t r. gives_then Q (signed_field r) _ (λ w r. gives_then Q (check (is_weight w) OutOfRange r) _ (λ _ r.
    gives_then Q (within 1 most_wish_literals r) _ (λ n r. gives_after P Q (times n (literal count) r) _ (gives_literals count n r) (λ ls _ h. h))))))

pub gives_wish : (tagged : Bool) (count : ℕ) (bs : List ℕ) → Gives (λ (w : WishModel). LiteralsBelow count w.literals) (wish_body tagged count bs)
unfolding wish_body
gives_wish tagged count bs = gives_wholly (WishBelow count) (wish_fields tagged count) bs (gives_wish_fields tagged count bs)

-- a count in its range, and a house sheet below it
abbrev pub HeadFits : ℕ × ℕ → Type 0
HeadFits h = (1 ≤ h.0) × (h.0 ≤ width) × (h.1 < 2 ^ h.0)

gives_head_fields : (bs : List ℕ) → Gives HeadFits (head_fields bs)
unfolding head_fields
gives_head_fields bs =
    gives_after (λ n. (1 ≤ n) × (n ≤ width)) HeadFits (within 1 width bs) _ (gives_within 1 width bs) (λ count r c.
    gives_then HeadFits (sheet_field count r) _ (λ house r. gives_check HeadFits (ltb house (2 ^ count)) MarkRange r _ (λ t _ r. (c.0, c.1, ltb-true house (2 ^ count) t))))

pub gives_head : (bs : List ℕ) → Gives HeadFits (head_body bs)
unfolding head_body
gives_head bs = gives_wholly HeadFits head_fields bs (gives_head_fields bs)

-- ---- a record that is cut off

pub record CutOff (bs : List ℕ) (kind : ℕ) (body rest : List ℕ) : Type 0 where
  pub made : RecordBytes
  pub front : bs ≡ bytes_of made ++ rest
  pub framed : Framed made
  pub is_kind : little made.kind ≡ kind
  pub is_body : made.body ≡ body

-- n bytes, the first two and the others, after four
pieces : (n : ℕ) (bs : List ℕ) → 4 ≤ length bs → 2 ≤ n → n ≤ length (drop 4 bs) → little (take 4 bs) ≡ n → n ≤ most_length
    → CutOff bs (little (take 2 (take n (drop 4 bs)))) (drop 2 (take n (drop 4 bs))) (drop n (drop 4 bs))
pieces n bs four two room e most =
    let block = take n (drop 4 bs) in
    let size = take 4 bs in
    let long : length block ≡ n = length-take-le n (drop 4 bs) room in
    let kind_long : length (take 2 block) ≡ 2 = length-take-le 2 block (omega arith) in
    let body_long : length (drop 2 block) ≡ n - 2 = length-drop 2 block ∙ ap (λ m. m - 2) long in
    record {
      made = record { size = size; kind = take 2 block; body = drop 2 block };
      front = sym (append_assoc size (take 2 block ++ drop 2 block) (drop n (drop 4 bs))
          ∙ ap (λ xs. size ++ (xs ++ drop n (drop 4 bs))) (take-append-drop 2 block)
          ∙ ap (λ xs. size ++ xs) (take-append-drop n (drop 4 bs))
          ∙ take-append-drop 4 bs);
      framed = record { four = length-take-le 4 bs four; two = kind_long; counts = omega arith; most = omega arith };
      is_kind = refl;
      is_body = refl;
    }

pub cut_took : {rest : List ℕ} {r : ℕ × List ℕ} (bs : List ℕ) → cut bs ≡ took r rest → CutOff bs r.0 r.1 rest
unfolding cut
cut_took {rest} {r} bs e =
    let a = after_took (bytes 4 RecordCut bs) _ e in
    let x = bytes_took 4 RecordCut bs a.2 in
    let b = after_took (check (is_length (little a.0)) LengthRange a.1) _ a.3 in
    let t = check_took (is_length (little a.0)) LengthRange a.1 b.2 in
    let range = and_parts (leb least_length (little a.0)) (leb (little a.0) most_length) t.0 in
    let c = after_took (bytes (little a.0) LengthPastEnd b.1) _ b.3 in
    let y = bytes_took (little a.0) LengthPastEnd b.1 c.2 in
    let n = little a.0 in
    let at : b.1 ≡ drop 4 bs = sym t.1 ∙ x.2 in
    let block : c.0 ≡ take n (drop 4 bs) = y.1 ∙ ap (take n) at in
    let left : c.1 ≡ drop n (drop 4 bs) = y.2 ∙ ap (drop n) at in
    let same : took (little (take 2 c.0), drop 2 c.0) c.1 ≡ took r rest = c.3 in
    let p = pieces n bs x.0 (leb-true least_length n range.0) (subst (λ xs. n ≤ length xs) at y.0) (ap little (sym x.1)) (leb-true n most_length range.1) in
    let rw_kind : little (take 2 (take n (drop 4 bs))) ≡ r.0 = ap (λ xs. little (take 2 xs)) (sym block) ∙ ap (λ (q : ℕ × List ℕ). q.0) (took_value same) in
    let rw_body : drop 2 (take n (drop 4 bs)) ≡ r.1 = ap (drop 2) (sym block) ∙ ap (λ (q : ℕ × List ℕ). q.1) (took_value same) in
    let rw_rest : drop n (drop 4 bs) ≡ rest = sym left ∙ took_rest same in
    record {
      made = p.made;
      front = p.front ∙ ap (λ xs. bytes_of p.made ++ xs) rw_rest;
      framed = p.framed;
      is_kind = p.is_kind ∙ rw_kind;
      is_body = p.is_body ∙ rw_body;
    }
