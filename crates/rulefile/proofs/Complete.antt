-- A sequence of records that keeps the laws is accepted.
use Rattle.std.proofs.Common.{◌≡◌, ℕ, ◌+◌, ◌-◌, ◌<◌, ◌≤◌, leb, List, [], ◌∷◌, ◌++◌, map, length, take, drop, IfOk, Ok, Err, Result, sym, refl, ap, subst, ◌∙◌, append_assoc, arith, length-append}
use Rattle.std.specs.List.{flat_map, AllByRecursion}
use Rattle.std.proofs.lemmas.List.{length-map, take_at, drop_at}
use Rattle.std.proofs.lemmas.Bool.{le-leb, lt-ltb, ne_eqb, and_from}
use Rattle.rulefile.specs.declared.refusals.Refusal.{Refusal}
use Rattle.rulefile.specs.declared.refusals.ReadError.{ReadError}
use Rattle.rulefile.specs.declared.refusals.ReadError.TheVariants.{Refused, Memory}
use Rattle.rulefile.specs.declared.files.RuleFile.{RuleFile}
use Rattle.rulefile.specs.declared.records.Kind.{Kind}
use Rattle.rulefile.specs.declared.records.Kind.TheVariants.{Head}
use Rattle.rulefile.specs.Numbers.{kind_number}
use Rattle.rulefile.specs.Lists.{Listed, Heads, Rules, Clauses, Wishes, Acts, list_for, list_of, with_one}
use Rattle.rulefile.specs.Model.{FileModel}
use Rattle.rulefile.specs.Parser.{Parse, took, little}
use Rattle.rulefile.specs.Format.{head_body, kind_of, room_at, head_alone, first_body, later_body, first, later, cut, records, decode}
use Rattle.rulefile.specs.Answers.{file_of, Reads}
use Rattle.rulefile.specs.Reading.{Reading}
use Rattle.rulefile.specs.Laws.{RecordBytes, bytes_of, Framed, of_kinds, Fits, Accepted}
use Rattle.rulefile.specs.Ranges.{least_length, most_length, most_of_kind}
use Rattle.rulefile.proofs.Frames.{cut_made}
use Rattle.rulefile.proofs.Drafts.{adding_made, whole_cut, decode_first, records_more}
use Rattle.rulefile.proofs.Lists.{each_list, later_item, few_items, none_yet, numbers_of, reads, Goes, records_here, records_other, read_here}
use Rattle.rulefile.proofs.Accepted.{number_known, Adds, accepted}

-- ---- a record at the front of the bytes

module _ (r : RecordBytes) (framed : Framed r) (rest : List ℕ) where
  abbrev whole : List ℕ
  whole = bytes_of r ++ rest

  parts : whole ≡ r.size ++ (r.kind ++ (r.body ++ rest))
  parts = append_assoc r.size (r.kind ++ r.body) rest ∙ ap (λ xs. r.size ++ xs) (append_assoc r.kind r.body rest)

  six : whole ≡ (r.size ++ r.kind) ++ (r.body ++ rest)
  six = parts ∙ sym (append_assoc r.size r.kind (r.body ++ rest))

  six_long : length (r.size ++ r.kind) ≡ 6
  six_long = length-append r.size r.kind ∙ (let a = framed.four in let b = framed.two in omega arith)

  long : length whole ≡ 6 + length (r.body ++ rest)
  long = ap length six ∙ length-append (r.size ++ r.kind) (r.body ++ rest) ∙ ap (λ n. n + length (r.body ++ rest)) six_long

  pub cut_front : cut (bytes_of r ++ rest) ≡ took (little r.kind, r.body) rest
  cut_front =
      let n = little r.size in
      let size : n - 2 ≡ length r.body = omega (arith, framed.counts, framed.two) in
      let joint = length-append r.body rest in
      let tail : r.body ++ rest ≡ drop 6 whole = sym (ap (drop 6) six ∙ drop_at (r.size ++ r.kind) (r.body ++ rest) 6 six_long) in
      cut_made whole (r.body ++ rest) r.body rest n (little r.kind)
      (omega (arith, long))
      (ap little (ap (take 4) parts ∙ take_at r.size (r.kind ++ (r.body ++ rest)) 4 framed.four))
      (and_from (leb least_length n) (leb n most_length) (le-leb least_length n (omega (arith, framed.counts, framed.two))) (le-leb n most_length framed.most))
      tail
      (omega arith)
      (ap (λ xs. little (take 2 xs)) (ap (drop 4) parts ∙ drop_at r.size (r.kind ++ (r.body ++ rest)) 4 framed.four) ∙ ap little (take_at r.kind (r.body ++ rest) 2 framed.two))
      (sym (take_at r.body rest (n - 2) (sym size)))
      (sym (drop_at r.body rest (n - 2) (sym size)))

-- ---- lists that go on

-- what stands behind the first list is the next of the whole
next_of : {X Y : Type 0} (m : X → Y) (xs zs : List X) (y : Y) (ys : List Y) → map m xs ++ y ∷ ys ≡ map m zs → (x : X) × (y ≡ m x) × (map m (xs ++ x ∷ []) ++ ys ≡ map m zs)
next_of m [] [] y ys e = absurd (cc)
next_of m [] (z ∷ zs) y ys e = (z, (cc), (cc))
next_of m (x ∷ xs) [] y ys e = absurd (cc)
next_of {Y = Y} m (x ∷ xs) (z ∷ zs) y ys e =
    let rest : map m xs ++ y ∷ ys ≡ map m zs = cc in
    let n = next_of m xs zs y ys rest in
    let top : m x ≡ m z = cc in
    (n.0, n.1, ap (λ w. m x ∷ w) n.2 ∙ ap (λ (w : Y). w ∷ map m zs) top)

-- a list with one more behind it is no longer than the whole
next_room : {X Y : Type 0} (m : X → Y) (xs zs : List X) (y : Y) (ys : List Y) → map m xs ++ y ∷ ys ≡ map m zs → length zs ≤ most_of_kind → length xs < most_of_kind
next_room m xs zs y ys e le =
    let a = ap length e in
    let b = length-append (map m xs) (y ∷ ys) in
    omega (arith, length-map xs m, length-map zs m)

-- equal where m is one to one
same_list : {X Y : Type 0} (m : X → Y) → ((x z : X) → m x ≡ m z → x ≡ z) → (xs zs : List X) → map m xs ++ [] ≡ map m zs → xs ≡ zs
same_list m one [] [] e = refl
same_list m one [] (z ∷ zs) e = absurd (cc)
same_list m one (x ∷ xs) [] e = absurd (cc)
same_list {X} m one (x ∷ xs) (z ∷ zs) e =
    let top : m x ≡ m z = cc in
    let rest : map m xs ++ [] ≡ map m zs = cc in
    ap (λ (w : X). w ∷ xs) (one x z top) ∙ ap (λ ws. z ∷ ws) (same_list m one xs zs rest)

-- ---- the records one after another

-- the file that a record leads to, and the records after it
record Next (g : FileModel) (r : RecordBytes) (rs : List RecordBytes) (f : FileModel) : Type 0 where
  file : FileModel
  says : later g (little r.kind) r.body ≡ took file []
  adds : Adds file rs f

has_room : (n : ℕ) → n < most_of_kind → Ok tt ≡ room_at n
has_room n lt = rw (lt-ltb n most_of_kind lt)

later_is : {q : Parse FileModel} (g : FileModel) (n : ℕ) (k : Kind) (bs : List ℕ) → kind_of n ≡ Ok k → later_body g k bs ≡ q → later g n bs ≡ q
unfolding later
later_is g n k bs e h = rw e h

module _ (g f : FileModel) (r : RecordBytes) (rs : List RecordBytes) (a : Adds g (r ∷ rs) f) (fits : Fits f) where
  -- behind the list of g, these records say that of f
  abbrev Says : (l : Listed) → List RecordBytes → Type 0
  Says l qs = map (λ x. took x []) (list_of l g) ++ map (λ (q : RecordBytes). reads l g.count (little q.kind) q.body) qs ≡ map (λ x. took x []) (list_of l f)

  next : (k : Kind) → kind_of (little r.kind) ≡ Ok k → map Ok (g.kinds ++ k ∷ []) ++ map (λ (q : RecordBytes). kind_of (little q.kind)) rs ≡ map Ok f.kinds → Next g r rs f
  next k e o =
      let n = number_known (little r.kind) k e in
      let l = list_for k in
      let here = subst (Says l) (records_here r rs k n) (a.lists l) in
      let x = next_of (λ x. took x []) (list_of l g) (list_of l f) (reads l g.count (little r.kind) r.body) _ here in
      let room = next_room (λ x. took x []) (list_of l g) (list_of l f) (reads l g.count (little r.kind) r.body) _ here (few_items f fits l) in
      record {
        file = with_one k g x.0;
        says = later_is g (little r.kind) k r.body e (later_item g k x.0 r.body ∙ adding_made _ _ _ r.body [] x.0 _ (has_room _ room) (sym (read_here r rs k n g.count) ∙ x.1) refl);
        adds = record {
          count = a.count;
          house = a.house;
          only = a.only.1;
          kinds = o;
          lists = each_list g k x.0 (λ j xs. Goes j g.count xs rs f) x.2
              (λ j other. subst (Says j) (records_other r rs k n j other) (a.lists j));
        };
      }

  next_file : Next g r rs f
  next_file = let k = next_of Ok g.kinds f.kinds _ _ a.kinds in next k.0 k.1 k.2

took_one : {X : Type 0} (x z : X) → took x [] ≡ took z [] → x ≡ z
took_one x z e = cc

abbrev known : Kind → Result Kind Refusal
known k = Ok k

known_one : (x z : Kind) → known x ≡ known z → x ≡ z
known_one x z e = cc

same_file : (g f : FileModel) → Adds g [] f → g ≡ f
same_file g f a =
    let count = a.count in
    let house = a.house in
    let kinds = same_list known known_one g.kinds f.kinds a.kinds in
    let same : (l : Listed) → list_of l g ≡ list_of l f = λ l. same_list (λ x. took x []) took_one (list_of l g) (list_of l f) (a.lists l) in
    let rules = same Rules in
    let clauses = same Clauses in
    let wishes = same Wishes in
    let acts = same Acts in
    rw (count, house, kinds, rules, clauses, wishes, acts)

records_of : (rs : List RecordBytes) (n size : ℕ) (g f : FileModel) → AllByRecursion Framed rs → Adds g rs f → Fits f → length (flat_map bytes_of rs) ≤ n → records n size g (flat_map bytes_of rs) ≡ Ok f
unfolding records
records_of [] n size g f framed a fits le = ap Ok (same_file g f a)
records_of (r ∷ rs) n size g f framed a fits le =
    let x = next_file g f r rs a fits in
    let rest = flat_map bytes_of rs in
    let l = long r framed.0 rest in
    let b = length-append r.body rest in
    let m = records_more n size g x.file (bytes_of r ++ rest) rest (omega arith) le (whole_cut (later g) _ r.body rest (little r.kind) (cut_front r framed.0 rest) x.says) in
    m.2 ∙ records_of rs m.0 size x.file f framed.1 x.adds fits (omega (arith, m.1))

-- where no record is a head there are no records of heads
no_heads : (rs : List RecordBytes) → AllByRecursion (λ (r : RecordBytes). little r.kind ≡ kind_number Head → ⊥) rs → of_kinds (numbers_of Heads) rs ≡ []
no_heads [] h = refl
no_heads (r ∷ rs) h = rw (ne_eqb (little r.kind) (kind_number Head) h.0) (no_heads rs h.1)

-- what the later records say, from the head on
all_said : (bs : List ℕ) (f : FileModel) (a : Accepted bs f) (l : Listed) → Goes l f.count [] a.later f
all_said bs f a Heads = ap (map (λ (r : RecordBytes). reads Heads f.count (little r.kind) r.body)) (no_heads a.later a.only)
all_said bs f a Rules = a.rules
all_said bs f a Clauses = a.clauses
all_said bs f a Wishes = a.wishes
all_said bs f a Acts = a.acts

-- the first record of a file
head_is : (n : ℕ) (bs : List ℕ) (h : ℕ × ℕ) → n ≡ kind_number Head → head_body bs ≡ took h [] → first n bs ≡ took (head_alone h) []
unfolding first first_body
head_is n bs h e says = rw (e, says)

pub complete : (bs : List ℕ) (f : FileModel) → Accepted bs f → decode bs ≡ Ok f
complete bs f a =
    let rest = flat_map bytes_of a.later in
    let l = long a.head a.framed.0 rest in
    let b = length-append a.head.body rest in
    let e = ap length a.sequence in
    let begun : Adds (head_alone (f.count, f.house)) a.later f = record
    { count = refl; house = refl; only = a.only; kinds = a.kinds; lists = λ l. subst (λ xs. Goes l f.count xs a.later f) (sym (none_yet l (f.count, f.house))) (all_said bs f a l) } in
    decode_first bs rest (head_alone (f.count, f.house)) a.short
    (whole_cut first bs a.head.body rest (little a.head.kind) (ap cut a.sequence ∙ cut_front a.head a.framed.0 rest) (head_is (little a.head.kind) a.head.body (f.count, f.house) a.first a.says))
    ∙ records_of a.later (length bs) (length bs) (head_alone (f.count, f.house)) f a.framed.1 begun a.fits (omega arith)

-- ---- what the reader promises follows from the meaning of its answer

pub reading : (bs : List ℕ) (r : Result RuleFile ReadError) → Reads (decode bs) r → Reading bs r
reading bs r e = record { meaning = e; laws = laws r e; complete = λ f a. subst (λ d. Reads d r) (complete bs f a) e }
  where
    laws : (r : Result RuleFile ReadError) → Reads (decode bs) r → IfOk r (λ f. Accepted bs (file_of f))
    laws (Ok g) e = accepted bs (file_of g) e
    laws (Err (Refused b)) e = tt
    laws (Err (Memory m)) e = tt
