-- Weak constraints, as loops over sets and over wishes make and ask them.
use Rattle.std.proofs.Common.{◌≡◌, ℕ, zero, suc, ◌+◌, ◌-◌, ◌<◌, ◌≤◌, Bool, true, false, not, cond, ◌||◌, List, [], ◌∷◌, ◌++◌, map, length, get_or, take, drop, refl, sym, ap, ap₂, subst, ◌∙◌, append-nil, take_all, arith, vec_items, Option, None, Some, ℤ, pos}
use Rattle.std.specs.List.{filter, filter_map, cons_option, list_any, AllZip}
use Rattle.std.specs.Option.{is_some}
use Rattle.std.proofs.Math.Seq.{take-suc, drop-nil}
use Rattle.std.proofs.lemmas.Bool.{or_parts, ne_eqb}
use Rattle.std.proofs.lemmas.Slice.Zip.{AllZip-long}
use Rattle.std.proofs.lemmas.List.{map-append, take-map, map_more, drop_more, take-append-drop, get_or-drop}
use Rattle.std.proofs.lemmas.List.Elements.{filter-append, filter_map-append}
use Rattle.sheets.specs.declared.literals.Literal.{Literal}
use Rattle.sheets.specs.declared.literal_sets.LiteralSet.{LiteralSet}
use Rattle.sheets.specs.LiteralSets.{Stands, in_width}
use Rattle.sheets.proofs.LiteralSets.{all_in_width}
use Rattle.rulefile.specs.declared.wishes.Key.{Key}
use Rattle.rulefile.specs.declared.wishes.Wish.{Wish}
use Rattle.rulefile.specs.Model.{WishModel, wish_of}
use Rattle.rulefile.specs.WeakConstraints.{WeakModel, IsSetOf, alone, is_untagged, is_single, is_larger, untagged_of, groups_of, singles_of, larger_of, keyed, key_of, same_key, is_key, has_key, different, group, first_groups, no_tag}
use Rattle.rulefile.proofs.Keys.{key_itself, different_push}

-- ---- place by place

-- one more behind each list
pub zip_push : {A B : Type 0} (R : A → B → Type 0) (xs : List A) (ys : List B) (x : A) (y : B) → AllZip R xs ys → R x y → AllZip R (xs ++ x ∷ []) (ys ++ y ∷ [])
zip_push R [] [] x y h r = (r, tt)
zip_push R [] (b ∷ ys) x y h r = absurd h
zip_push R (a ∷ xs) [] x y h r = absurd h
zip_push R (a ∷ xs) (b ∷ ys) x y h r = (h.0, zip_push R xs ys x y h.1 r)

-- whether one passes from place i on, where r says it of the one at i, by what stands there in the first list
pub any_from : {A B : Type 0} {r : Bool} (R : A → B → Type 0) (p : B → Bool) (xs : List A) (ys : List B) (i : ℕ) (d : A) → AllZip R xs ys → i < length xs
    → ((y : B) → R (get_or xs i d) y → r ≡ p y) → list_any p (drop i ys) ≡ (r || list_any p (drop (i + 1) ys))
any_from {A} {B} {r} R p xs ys i d h lt says = let next : i + 1 ≡ suc i = omega arith in go xs ys i h lt says ∙ ap (λ n. r || list_any p (drop n ys)) (sym next)
  where
    go : (xs : List A) (ys : List B) (i : ℕ) → AllZip R xs ys → i < length xs → ((y : B) → R (get_or xs i d) y → r ≡ p y) → list_any p (drop i ys) ≡ (r || list_any p (drop (suc i) ys))
    go [] ys i h lt says = absurd (omega arith)
    go (a ∷ xs) [] i h lt says = absurd h
    go (a ∷ xs) (b ∷ ys) zero h lt says = ap (λ q. q || list_any p ys) (sym (says b h.0))
    go (a ∷ xs) (b ∷ ys) (suc i) h lt says = go xs ys i h.1 (omega arith) says

-- behind the last there is none
pub any_none : {A B : Type 0} (R : A → B → Type 0) (p : B → Bool) (xs : List A) (ys : List B) (i : ℕ) → AllZip R xs ys → length xs ≤ i → list_any p (drop i ys) ≡ false
any_none R p [] [] i h le = none i
  where
    none : (i : ℕ) → list_any p (drop i []) ≡ false
    none zero = refl
    none (suc i) = refl
any_none R p [] (b ∷ ys) i h le = absurd h
any_none R p (a ∷ xs) [] i h le = absurd h
any_none R p (a ∷ xs) (b ∷ ys) zero h le = absurd (omega arith)
any_none R p (a ∷ xs) (b ∷ ys) (suc i) h le = any_none R p xs ys i h.1 (omega arith)

-- ---- the set of a wish

pub set_stands : {ls : List Literal} (w : Wish) (s : LiteralSet) → ls ≡ vec_items w.literals → Stands s.plain s.nots (in_width ls) → IsSetOf s (wish_of w).literals
set_stands w s e h = subst (Stands s.plain s.nots) (ap in_width e ∙ all_in_width _ w.marks) h

-- ---- a loop over wishes

-- the element at i, behind those before it
pub take_more : {A : Type 0} (xs : List A) (i : ℕ) (x : A) → i < length xs → x ≡ get_or xs i x → take (i + 1) xs ≡ take i xs ++ x ∷ []
take_more xs i x lt e = let next : i + 1 ≡ suc i = omega arith in ap (λ n. take n xs) next ∙ take-suc xs i x lt ∙ ap (λ y. take i xs ++ y ∷ []) (sym e)

-- of those that pass a test, what f says of the first i + 1
pub passed_more : {B : Type 0} (f : WishModel → B) (p : WishModel → Bool) (ws : List Wish) (i : ℕ) (w : Wish) → i < length ws → w ≡ get_or ws i w
    → map f (filter p (map wish_of (take (i + 1) ws))) ≡ map f (filter p (map wish_of (take i ws))) ++ cond (p (wish_of w)) (f (wish_of w) ∷ []) []
passed_more f p ws i w lt e =
    ap (λ l. map f (filter p (map wish_of l))) (take_more ws i w lt e)
    ∙ ap (λ l. map f (filter p l)) (map-append wish_of (take i ws) (w ∷ []))
    ∙ ap (map f) (filter-append p (map wish_of (take i ws)) (wish_of w ∷ []))
    ∙ map-append f (filter p (map wish_of (take i ws))) (cond (p (wish_of w)) (wish_of w ∷ []) [])
    ∙ ap (λ l. map f (filter p (map wish_of (take i ws))) ++ l) (go (p (wish_of w)))
  where
    go : (b : Bool) → map f (cond b (wish_of w ∷ []) []) ≡ cond b (f (wish_of w) ∷ []) []
    go true = refl
    go false = refl

-- by `is_none`
pub untagged_is : (tag : Option ℕ) (b : Bool) → is_some tag ≡ not b → no_tag tag ≡ b
untagged_is None true e = refl
untagged_is None false e = absurd (cc)
untagged_is (Some t) true e = absurd (cc)
untagged_is (Some t) false e = refl

-- ---- the group of a key that stands for the first time

-- a key is among those of wishes where one of these has it
any_key : (k : Key) (ws : List WishModel) → list_any (λ j. same_key j k) (filter_map key_of ws) ≡ list_any (has_key k) ws
any_key k [] = refl
any_key k (w ∷ ws) = go (key_of w) ∙ ap (λ b. has_key k w || b) (any_key k ws)
  where
    go : (o : Option Key) → list_any (λ j. same_key j k) (cons_option o (filter_map key_of ws)) ≡ (is_key k o || list_any (λ j. same_key j k) (filter_map key_of ws))
    go None = refl
    go (Some j) = refl

none_passes : {A : Type 0} (p : A → Bool) (xs : List A) → list_any p xs ≡ false → filter p xs ≡ []
none_passes p [] e = refl
none_passes p (x ∷ xs) e = let b = or_parts (p x) (list_any p xs) e in ap (λ t. cond t (x ∷ filter p xs) (filter p xs)) b.0 ∙ none_passes p xs b.1

-- a key has the level and the weight of its wish
key_parts : (k : Key) (level : ℕ) (weight : ℤ) (tag : Option ℕ) → keyed level weight tag ≡ Some k → (level ≡ k.level) × (weight ≡ k.weight)
key_parts k level weight None e = absurd (cc)
key_parts k level weight (Some t) e = (ap (λ (o : Option Key). level_of o) e, ap (λ (o : Option Key). weight_of o) e)
  where
    level_of : Option Key → ℕ
    level_of None = 0
    level_of (Some j) = j.level

    weight_of : Option Key → ℤ
    weight_of None = pos 0
    weight_of (Some j) = j.weight

-- w is the wish at i, and ws are the models of all
module _ (wishes : List Wish) (i : ℕ) (w : Wish) (lt : i < length wishes) (is : w ≡ get_or wishes i w) where
  abbrev ws : List WishModel
  ws = map wish_of wishes

  abbrev keys : ℕ → List Key
  keys n = filter_map key_of (take n ws)

  take_ws : take (i + 1) ws ≡ take i ws ++ wish_of w ∷ []
  take_ws =
      take-map wish_of (i + 1) wishes ∙ map_more wish_of wishes i w lt
      ∙ ap (λ l. l ++ wish_of (get_or wishes i w) ∷ []) (sym (take-map wish_of i wishes))
      ∙ ap (λ (v : Wish). take i ws ++ wish_of v ∷ []) (sym is)

  more_keys : keys (i + 1) ≡ keys i ++ cons_option (key_of (wish_of w)) []
  more_keys = ap (filter_map key_of) take_ws ∙ filter_map-append key_of (take i ws) (wish_of w ∷ [])

  parts : ws ≡ take i ws ++ wish_of w ∷ map wish_of (drop (i + 1) wishes)
  parts =
      ap (map wish_of) (sym (take-append-drop i wishes) ∙ ap (λ l. take i wishes ++ l) (drop_more wishes i w lt ∙ ap (λ (v : Wish). v ∷ drop (i + 1) wishes) (sym is)))
      ∙ map-append wish_of (take i wishes) (w ∷ drop (i + 1) wishes)
      ∙ ap (λ l. l ++ wish_of w ∷ map wish_of (drop (i + 1) wishes)) (sym (take-map wish_of i wishes))

  -- a wish without a tag begins no group
  pub same_groups : key_of (wish_of w) ≡ None → first_groups (i + 1) ws ≡ first_groups i ws
  same_groups e = ap (λ ks. map (group ws) (different ks)) (more_keys ∙ ap (λ o. keys i ++ cons_option o []) e ∙ append-nil (keys i))

  -- one with a key does where none before it has this key
  pub more_groups : (k : Key) (r : Bool) → key_of (wish_of w) ≡ Some k → r ≡ list_any (has_key k) (take i ws) → first_groups (i + 1) ws ≡ first_groups i ws ++ cond r [] (group ws k ∷ [])
  more_groups k r e a =
      ap (λ ks. map (group ws) (different ks)) (more_keys ∙ ap (λ o. keys i ++ cons_option o []) e)
      ∙ ap (map (group ws)) (different_push (keys i) k)
      ∙ map-append (group ws) (different (keys i)) (cond (list_any (λ j. same_key j k) (keys i)) [] (k ∷ []))
      ∙ ap (λ b. first_groups i ws ++ map (group ws) (cond b [] (k ∷ []))) (any_key k (take i ws) ∙ sym a)
      ∙ ap (λ l. first_groups i ws ++ l) (go r)
    where
      go : (b : Bool) → map (group ws) (cond b [] (k ∷ [])) ≡ cond b [] (group ws k ∷ [])
      go true = refl
      go false = refl

  -- and this group is the wish with those after it that have the key
  pub begins : (k : Key) → key_of (wish_of w) ≡ Some k → list_any (has_key k) (take i ws) ≡ false → group ws k ≡ record {
    level = w.level;
    weight = w.weight;
    members = (wish_of w).literals ∷ map (λ (v : WishModel). v.literals) (filter (has_key k) (map wish_of (drop (i + 1) wishes)));
  }
  begins k e none =
      let part = key_parts k w.level w.weight w.tag e in
      let rest = map wish_of (drop (i + 1) wishes) in
      let own : has_key k (wish_of w) ≡ true = ap (is_key k) e ∙ key_itself k in
      let passed : filter (has_key k) ws ≡ wish_of w ∷ filter (has_key k) rest =
      ap (filter (has_key k)) parts ∙ filter-append (has_key k) (take i ws) (wish_of w ∷ rest)
      ∙ ap₂ (λ l b. l ++ cond b (wish_of w ∷ filter (has_key k) rest) (filter (has_key k) rest)) (none_passes (has_key k) (take i ws) none) own in
      rw (part.0, part.1, passed)

-- ---- those with one member, and those with more

-- a wish by itself has one
untagged_single : (ws : List WishModel) → filter is_single (untagged_of ws) ≡ untagged_of ws
untagged_single ws = go (filter is_untagged ws)
  where
    go : (vs : List WishModel) → filter is_single (map alone vs) ≡ map alone vs
    go [] = refl
    go (v ∷ vs) = ap (λ cs. alone v ∷ cs) (go vs)

untagged_larger : (ws : List WishModel) → filter is_larger (untagged_of ws) ≡ []
untagged_larger ws = go (filter is_untagged ws)
  where
    go : (vs : List WishModel) → filter is_larger (map alone vs) ≡ []
    go [] = refl
    go (v ∷ vs) = go vs

pub singles_parts : (ws : List WishModel) → singles_of ws ≡ untagged_of ws ++ filter is_single (groups_of ws)
singles_parts ws = filter-append is_single (untagged_of ws) (groups_of ws) ∙ ap (λ cs. cs ++ filter is_single (groups_of ws)) (untagged_single ws)

pub larger_parts : (ws : List WishModel) → larger_of ws ≡ filter is_larger (groups_of ws)
larger_parts ws = filter-append is_larger (untagged_of ws) (groups_of ws) ∙ ap (λ cs. cs ++ filter is_larger (groups_of ws)) (untagged_larger ws)

-- a group with other members than its first has more than one
pub more_members : (s : LiteralSet) (others : List LiteralSet) (m : WeakModel) → AllZip IsSetOf (s ∷ others) m.members → (length others ≡ 0 → ⊥) → is_single m ≡ false
more_members s others m h some = ne_eqb (length m.members) 1 (λ e. some (let long = AllZip-long IsSetOf (s ∷ others) m.members h in omega arith))

-- all groups begin among all wishes
pub all_groups : (i : ℕ) (ws : List WishModel) → length ws ≤ i → first_groups i ws ≡ groups_of ws
all_groups i ws le = ap (λ vs. map (group ws) (different (filter_map key_of vs))) (take_all i ws le)

-- what passes of a list with one more
pub passes_more : (p : WeakModel → Bool) (cs : List WeakModel) (c : WeakModel) → filter p (cs ++ c ∷ []) ≡ filter p cs ++ filter p (c ∷ [])
passes_more p cs c = filter-append p cs (c ∷ [])

-- ---- the slices of a loop over groups

-- wishes that have a key, by their models
pub any_has_key : (k : Key) (wishes : List Wish) → list_any (λ (w : Wish). has_key k (wish_of w)) wishes ≡ list_any (has_key k) (map wish_of wishes)
any_has_key k [] = refl
any_has_key k (w ∷ wishes) = ap (λ b. has_key k (wish_of w) || b) (any_has_key k wishes)

-- behind the first of what is left from i on
pub rest_more : {A : Type 0} (xs rest : List A) (i : ℕ) → rest ≡ drop i xs → take (length rest - 1) (drop 1 rest) ≡ drop (i + 1) xs
rest_more {A} xs rest i e = go rest ∙ ap (drop 1) e ∙ drop_drop i xs
  where
    go : (ys : List A) → take (length ys - 1) (drop 1 ys) ≡ drop 1 ys
    go [] = refl
    go (y ∷ ys) = take_all (length (y ∷ ys) - 1) ys (omega arith)

    drop_drop : (i : ℕ) (ys : List A) → drop 1 (drop i ys) ≡ drop (i + 1) ys
    drop_drop zero ys = refl
    drop_drop (suc i) [] = sym (drop-nil (suc i + 1))
    drop_drop (suc i) (y ∷ ys) = let next : suc i + 1 ≡ suc (i + 1) = omega arith in drop_drop i ys ∙ ap (λ n. drop n (y ∷ ys)) (sym next)

-- its first is the element at i
pub rest_first : {A : Type 0} (xs rest : List A) (i : ℕ) (x : A) → rest ≡ drop i xs → x ≡ get_or rest 0 x → x ≡ get_or xs i x
rest_first xs rest i x e is = let same : i + 0 ≡ i = omega arith in is ∙ ap (λ l. get_or l 0 x) e ∙ get_or-drop i xs 0 x ∙ ap (λ n. get_or xs n x) same
