-- An accepted file is a sequence of records that say what it holds.
use Rattle.std.proofs.Common.{◌≡◌, ℕ, zero, suc, ◌-◌, ◌<◌, ◌≤◌, Bool, true, false, cond, eqb, ltb, List, [], ◌∷◌, ◌++◌, map, length, Ok, Err, Result, sym, refl, ap, ◌∙◌, subst, append_assoc, append-nil, arith, length-append}
use Rattle.std.specs.List.{flat_map, AllByRecursion}
use Rattle.std.proofs.lemmas.List.{map_push}
use Rattle.std.proofs.lemmas.Bool.{ltb-true, ltb-false, eqb-true}
use Rattle.sheets.specs.laws.Bits.{below_marks}
use Rattle.rulefile.specs.declared.refusals.Refusal.{Refusal}
use Rattle.rulefile.specs.declared.refusals.Refusal.TheVariants.{TooManyOfKind, FileTooLong}
use Rattle.rulefile.specs.declared.refusals.BadFile.{BadFile}
use Rattle.rulefile.specs.declared.records.Kind.{Kind}
use Rattle.rulefile.specs.declared.records.Kind.TheVariants.{Head}
use Rattle.rulefile.specs.Ranges.{most_bytes, most_of_kind}
use Rattle.rulefile.specs.Numbers.{kind_number, all_kinds}
use Rattle.rulefile.specs.Model.{FileModel}
use Rattle.rulefile.specs.Lists.{Listed, Rules, Clauses, Wishes, Acts, list_for, Item, list_of, with_one}
use Rattle.rulefile.specs.Parser.{Parse, took, fails, Parser, after, ◌>>=◌, parsed, little}
use Rattle.rulefile.specs.Format.{head_fields, head_body, body_of, numbered, kind_of, adding, head_alone, first_body, later_body, first, later, whole, bad, or_refused, cut, records, decode}
use Rattle.rulefile.specs.Laws.{RecordBytes, bytes_of, Framed, lengths, of_kinds, Say, ItemBelow, Fits, Accepted}
use Rattle.rulefile.proofs.Sound.{after_took, wholly_ends, given, gives_head, HeadFits, cut_took}
use Rattle.rulefile.proofs.Lists.{each_list, body_ends, gives_body, none_yet, one_fits, numbers_of, reads, Goes, records_here, records_other, read_here}

-- ---- kinds

numbered_by : (ks : List Kind) (n : ℕ) (k : Kind) → numbered ks n ≡ Ok k → n ≡ kind_number k
numbered_by [] n k e = absurd (cc)
numbered_by (j ∷ ks) n k e = go (eqb n (kind_number j)) refl e (numbered_by ks n k)
  where
    go : (b : Bool) → eqb n (kind_number j) ≡ b → cond b (Ok j) (numbered ks n) ≡ Ok k → (numbered ks n ≡ Ok k → n ≡ kind_number k) → n ≡ kind_number k
    go true t e later = let same : j ≡ k = cc in eqb-true n (kind_number j) t ∙ ap kind_number same
    go false t e later = later e

pub number_known : (n : ℕ) (k : Kind) → kind_of n ≡ Ok k → n ≡ kind_number k
number_known n k e = numbered_by all_kinds n k e

-- a kind that is known, and a body of it that is read
kind_took : {g : FileModel} {left : List ℕ} (p : Kind → Parser FileModel) (r : Result Kind Refusal) (bs : List ℕ) → after (parsed r bs) p ≡ took g left → (k : Kind) × (r ≡ Ok k) × (p k bs ≡ took g left)
kind_took p (Ok k) bs e = (k, refl, e)
kind_took p (Err why) bs e = absurd (cc)

-- one more of a kind, whose body ends with its last field
record Added (f : FileModel) (k : Kind) (body : List ℕ) (g : FileModel) : Type 0 where
  item : Item (list_for k)
  room : length (list_of (list_for k) f) < most_of_kind
  says : body_of k f.count body ≡ took item []
  is : with_one k f item ≡ g

added_took : {g : FileModel} {left : List ℕ} (f : FileModel) (k : Kind) (bs : List ℕ) → adding (length (list_of (list_for k) f)) (body_of k f.count) (with_one k f) bs ≡ took g left → Added f k bs g
added_took {g} {left} f k bs e = go (ltb (length (list_of (list_for k) f)) most_of_kind) refl e
  where
    go : (b : Bool) → ltb (length (list_of (list_for k) f)) most_of_kind ≡ b
        → after {A = Unit {0}} (parsed (cond b (Ok tt) (Err TooManyOfKind)) bs) (λ _ cs. after (body_of k f.count cs) (λ x rest. took (with_one k f x) rest)) ≡ took g left → Added f k bs g
    go true t e =
        let a = after_took (body_of k f.count bs) _ e in
        record { item = a.0; room = ltb-true (length (list_of (list_for k) f)) most_of_kind t; says = a.2 ∙ ap (λ rest. took a.0 rest) (body_ends k f.count bs a.0 a.1 a.2); is = (cc) }
    go false t e = absurd (cc)

later_took : {g : FileModel} {left : List ℕ} (f : FileModel) (k : Kind) (bs : List ℕ) → later_body f k bs ≡ took g left → Added f k bs g
unfolding later_body
later_took f Head bs e = absurd (cc)
later_took f k bs e = added_took f k bs e

-- ---- records that follow one another

-- what later records add to f makes g
pub record Adds (f : FileModel) (rs : List RecordBytes) (g : FileModel) : Type 0 where
  pub count : f.count ≡ g.count
  pub house : f.house ≡ g.house
  pub only : AllByRecursion (λ (r : RecordBytes). little r.kind ≡ kind_number Head → ⊥) rs
  pub kinds : map Ok f.kinds ++ map (λ (r : RecordBytes). kind_of (little r.kind)) rs ≡ map Ok g.kinds
  pub lists : (l : Listed) → Goes l f.count (list_of l f) rs g

adds_none : (f : FileModel) → Adds f [] f
adds_none f = record {
  count = refl;
  house = refl;
  only = tt;
  kinds = append-nil _;
  lists = λ l. append-nil _;
}

-- what was at the end of the first list is at the front of the second
shift : {X Y : Type 0} (m : X → Y) (xs : List X) (x : X) (y : Y) (ys : List Y) → y ≡ m x → map m xs ++ y ∷ ys ≡ map m (xs ++ x ∷ []) ++ ys
shift m xs x y ys e = rw (e, map_push m xs x) (sym (append_assoc (map m xs) (m x ∷ []) ys))

no_head : (k : Kind) → Item (list_for k) → kind_number k ≡ kind_number Head → ⊥
no_head Head x e = absurd x
no_head k x e = omega (arith, e)

adds_more : {h : FileModel} (r : RecordBytes) (rs : List RecordBytes) (f g : FileModel) (k : Kind) → kind_of (little r.kind) ≡ Ok k → Added f k r.body g → Adds g rs h → Adds f (r ∷ rs) h
adds_more {h} r rs f g k e a s =
    let n = number_known (little r.kind) k e in
    let t = subst (λ q. Adds q rs h) (sym a.is) s in
    record {
      count = t.count;
      house = t.house;
      only = ((λ one. no_head k a.item (sym n ∙ one)), t.only);
      kinds = shift Ok f.kinds k (kind_of (little r.kind)) _ e ∙ t.kinds;
      lists = λ i. each_list f k a.item (λ j xs. Goes j f.count xs rs h → Goes j f.count (list_of j f) (r ∷ rs) h)
          (λ w. subst (Says (list_for k)) (sym (records_here r rs k n)) (shift (λ x. took x []) (list_of (list_for k) f) a.item (reads (list_for k) f.count (little r.kind) r.body) _ (read_here r rs k n f.count ∙ a.says) ∙ w))
          (λ j other w. subst (Says j) (sym (records_other r rs k n j other)) w)
          i (t.lists i);
    }
  where
    -- behind the list of f, these records say that of h
    Says : (l : Listed) → List RecordBytes → Type 0
    Says l qs = map (λ x. took x []) (list_of l f) ++ map (λ (q : RecordBytes). reads l f.count (little q.kind) q.body) qs ≡ map (λ x. took x []) (list_of l h)

-- ---- limits

later_fits : (f g : FileModel) (k : Kind) (bs : List ℕ) → Fits f → Added f k bs g → Fits g
later_fits f g k bs h a = subst Fits a.is (one_fits f k a.item h (given (ItemBelow (list_for k) f.count) a.says (gives_body k f.count bs)) a.room)

-- ---- files

or_took : {g : FileModel} (offset : ℕ) (q : Parse FileModel) (go : FileModel → List ℕ → Result FileModel BadFile) → or_refused offset q go ≡ Ok g → (f : FileModel) × (rest : List ℕ) × (q ≡ took f rest) × (go f rest ≡ Ok g)
or_took offset (took f rest) go e = (f, rest, refl, e)
or_took offset (fails why) go e = absurd (cc)

-- a record with the bytes after it, and what its body says
record Whole (p : Kind → Parser FileModel) (bs rest : List ℕ) (g : FileModel) : Type 0 where
  kind : Kind
  made : RecordBytes
  left : List ℕ
  front : bs ≡ bytes_of made ++ rest
  framed : Framed made
  is_kind : kind_of (little made.kind) ≡ Ok kind
  says : p kind made.body ≡ took g left

whole_took : {g : FileModel} {rest : List ℕ} (p : Kind → Parser FileModel) (bs : List ℕ) → whole (λ n. parsed (kind_of n) >>= p) bs ≡ took g rest → Whole p bs rest g
whole_took {g} {rest} p bs e =
    let a = after_took (cut bs) _ e in
    let c = cut_took bs a.2 in
    let b = after_took (after (parsed (kind_of a.0.0) a.0.1) p) _ a.3 in
    let k = kind_took p (kind_of a.0.0) a.0.1 b.2 in
    let same : took b.0 a.1 ≡ took g rest = b.3 in
    record {
      kind = k.0;
      made = c.made;
      left = b.1;
      front = c.front ∙ ap (λ xs. bytes_of c.made ++ xs) (cc);
      framed = c.framed;
      is_kind = ap kind_of c.is_kind ∙ k.1;
      says = ap (p k.0) c.is_body ∙ k.2 ∙ ap (λ q. took q b.1) (cc);
    }

record Split (f : FileModel) (bs : List ℕ) (g : FileModel) : Type 0 where
  parts : List RecordBytes
  sequence : bs ≡ flat_map bytes_of parts
  framed : AllByRecursion Framed parts
  adds : Adds f parts g
  fits : Fits g

records_split : (n size : ℕ) (f g : FileModel) (bs : List ℕ) → Fits f → records n size f bs ≡ Ok g → Split f bs g
unfolding records later
records_split n size f g [] h e = let s : f ≡ g = cc in subst (λ q. Split f [] q) s (record { parts = []; sequence = refl; framed = tt; adds = adds_none f; fits = h })
records_split zero size f g (b ∷ bs) h e = absurd (cc)
records_split (suc n) size f g (b ∷ bs) h e =
    let o = or_took (size - length (b ∷ bs)) (whole (later f) (b ∷ bs)) _ e in
    let w = whole_took (later_body f) (b ∷ bs) o.2 in
    let l = later_took f w.kind w.made.body w.says in
    let s = records_split n size o.0 g o.1 (later_fits f o.0 w.kind w.made.body h l) o.3 in
    record {
      parts = w.made ∷ s.parts;
      sequence = w.front ∙ ap (λ xs. bytes_of w.made ++ xs) s.sequence;
      framed = (w.framed, s.framed);
      adds = adds_more w.made s.parts f o.0 w.kind w.is_kind l s.adds;
      fits = s.fits;
    }

-- the lengths of records add up to their bytes
adds_up : (rs : List RecordBytes) → AllByRecursion Framed rs → length (flat_map bytes_of rs) ≡ lengths rs
adds_up [] h = refl
adds_up (r ∷ rs) h =
    let f = h.0 in
    let ih = adds_up rs h.1 in
    let a = length-append (bytes_of r) (flat_map bytes_of rs) in
    let b = length-append r.size (r.kind ++ r.body) in
    let c = length-append r.kind r.body in
    omega (arith, f.four, f.counts)

head_ends : (bs : List ℕ) (x : ℕ × ℕ) (rest : List ℕ) → head_body bs ≡ took x rest → rest ≡ []
unfolding head_body
head_ends bs x rest e = wholly_ends head_fields bs e

first_took : {g : FileModel} {left : List ℕ} (k : Kind) (bs : List ℕ) → first_body k bs ≡ took g left → (k ≡ Head) × (h : ℕ × ℕ) × (head_body bs ≡ took h []) × (head_alone h ≡ g)
unfolding first_body
first_took Head bs e = let a = after_took (head_body bs) _ e in (refl, a.0, a.2 ∙ ap (λ rest. took a.0 rest) (head_ends bs a.0 a.1 a.2), (cc))
first_took k bs e = absurd (cc)

head_fits : (h : ℕ × ℕ) (bs : List ℕ) → head_body bs ≡ took h [] → Fits (head_alone h)
head_fits h bs e =
    let p = given HeadFits e (gives_head bs) in
    record { some = p.0; few = p.1; house = p.2; rules = tt; clauses = tt; wishes = tt; few_rules = omega arith; few_clauses = omega arith; few_wishes = omega arith; few_acts = omega arith }

-- a head and the records after it are a file
made_of : {h : ℕ × ℕ} (bs rest : List ℕ) (r : RecordBytes) (f : FileModel) → length bs ≤ most_bytes → bs ≡ bytes_of r ++ rest → Framed r → kind_of (little r.kind) ≡ Ok Head → head_body r.body ≡ took h [] → Split (head_alone h) rest f → Accepted bs f
made_of {h} bs rest r f short front framed kind says s =
    let t = s.adds in
    let said : (l : Listed) → Say (reads l f.count) (of_kinds (numbers_of l) s.parts) (list_of l f) =
    λ l. subst (λ n. Say (reads l n) (of_kinds (numbers_of l) s.parts) (list_of l f)) t.count (subst (λ xs. Goes l h.0 xs s.parts f) (none_yet l h) (t.lists l)) in
    let whole : bs ≡ flat_map bytes_of (r ∷ s.parts) = front ∙ ap (λ xs. bytes_of r ++ xs) s.sequence in
    record {
      head = r;
      later = s.parts;
      sequence = whole;
      framed = (framed, s.framed);
      adds_up = ap length whole ∙ adds_up (r ∷ s.parts) (framed, s.framed);
      short = short;
      first = number_known (little r.kind) Head kind;
      only = t.only;
      says = says ∙ ap (λ n. took (n, h.1) []) t.count ∙ ap (λ z. took (f.count, z) []) t.house;
      rules = said Rules;
      clauses = said Clauses;
      wishes = said Wishes;
      acts = said Acts;
      kinds = t.kinds;
      fits = s.fits;
      house = below_marks f.count f.house s.fits.house;
    }

pub accepted : (bs : List ℕ) (f : FileModel) → decode bs ≡ Ok f → Accepted bs f
unfolding decode first
accepted bs f e = go (ltb most_bytes (length bs)) refl e
  where
    go : (b : Bool) → ltb most_bytes (length bs) ≡ b → cond b (bad FileTooLong 0) (or_refused 0 (whole first bs) (records (length bs) (length bs))) ≡ Ok f → Accepted bs f
    go true t e = absurd (cc)
    go false t e =
        let o = or_took 0 (whole first bs) _ e in
        let w = whole_took first_body bs o.2 in
        let h = first_took w.kind w.made.body w.says in
        let s = records_split (length bs) (length bs) (head_alone h.1) f o.1 (head_fits h.1 w.made.body h.2) (ap (λ q. records (length bs) (length bs) q o.1) h.3 ∙ o.3) in
        made_of bs o.1 w.made f (ltb-false most_bytes (length bs) t) w.front w.framed (w.is_kind ∙ ap Ok h.0) h.2 s
