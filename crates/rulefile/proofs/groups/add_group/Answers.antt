use Rattle.std.proofs.Common.{◌≡◌, [], ◌∷◌, ◌++◌, ◌+◌, cond, map, take, sym, ap, ◌∙◌, subst, append-nil, append_assoc, vec_items, rules, tests}
use Rattle.std.specs.List.{filter, list_any, AllZip}
use Rattle.std.proofs.lemmas.List.{take-map}
use Rattle.std.proofs.lemmas.Iterator.{YieldsList-from_slice}
use Rattle.std.proofs.lemmas.Iterator.Search.{any_from_yields_List}
use Rattle.rulefile.specs.Model.{WishModel, wish_of}
use Rattle.rulefile.specs.WeakConstraints.{IsSingle, IsGroup, is_single, is_larger, has_key, group, first_groups}
use Rattle.rulefile.proofs.Weak.{same_groups, more_groups, begins, passes_more, any_has_key, rest_more, rest_first}
use Rattle.rulefile.proofs.groups.add_group.Goals as goal

-- a wish without a tag begins no group
untagged : (c : goal.In_default-key) → first_groups (c.args.i + 1) (map wish_of c.args.wishes.now) ≡ first_groups c.args.i (map wish_of c.args.wishes.now)
untagged c =
    let is = rest_first c.args.wishes.now c.split_at.result.1.now c.args.i c.wish-item.result c.split_at.ensures.back c.wish-item.is in
    same_groups c.args.wishes.now c.args.i c.wish-item.result c.requires is (sym c.key.ensures ∙ c.in_default-key.is)

pub returns-in_default-key-clause-singles : goal.returns-in_default-key-clause-singles
returns-in_default-key-clause-singles c = λ ms h. subst (λ gs. AllZip IsSingle (vec_items c.args.singles.now) (ms ++ filter is_single gs)) (sym (untagged c)) h

pub returns-in_default-key-clause-groups : goal.returns-in_default-key-clause-groups
returns-in_default-key-clause-groups c = λ h. subst (λ gs. AllZip IsGroup (vec_items c.args.groups.now) (filter is_larger gs)) (sym (untagged c)) h

-- nor does one of a group that began before
again : (c : goal.Else-not-any) → first_groups (c.args.i + 1) (map wish_of c.args.wishes.now) ≡ first_groups c.args.i (map wish_of c.args.wishes.now)
again c =
    let wishes = c.args.wishes.now in
    let ws = map wish_of wishes in
    let i = c.args.i in
    let k = c.in-Some.key in
    let is = rest_first wishes c.split_at.result.1.now i c.wish-item.result c.split_at.ensures.back c.wish-item.is in
    let any : c.any.result ≡ list_any (has_key k) (take i ws) =
    any_from_yields_List _ _ _ _ c.any.ensures.ran (YieldsList-from_slice c.split_at.result.0.now cc) (λ x b q k. search (rules, tests))
    ∙ any_has_key k c.split_at.result.0.now ∙ ap (λ l. list_any (has_key k) (map wish_of l)) c.split_at.ensures.front ∙ ap (list_any (has_key k)) (sym (take-map wish_of i wishes)) in
    more_groups wishes i c.wish-item.result c.requires is k c.any.result (sym c.key.ensures ∙ c.in-Some.is) any
    ∙ ap (λ b. first_groups i ws ++ cond b [] (group ws k ∷ [])) c.if-not-any.false ∙ append-nil (first_groups i ws)

pub returns-else-not-any-clause-singles : goal.returns-else-not-any-clause-singles
returns-else-not-any-clause-singles c = λ ms h. subst (λ gs. AllZip IsSingle (vec_items c.args.singles.now) (ms ++ filter is_single gs)) (sym (again c)) h

pub returns-else-not-any-clause-groups : goal.returns-else-not-any-clause-groups
returns-else-not-any-clause-groups c = λ h. subst (λ gs. AllZip IsGroup (vec_items c.args.groups.now) (filter is_larger gs)) (sym (again c)) h

-- a group that begins: what is added is this group, and stands behind those before
new : (c : goal.In_ok-add)
    → IsGroup c.in_ok-of.field-0 (group (map wish_of c.args.wishes.now) c.in-Some.key)
    × (first_groups c.args.i (map wish_of c.args.wishes.now) ++ group (map wish_of c.args.wishes.now) c.in-Some.key ∷ [] ≡ first_groups (c.args.i + 1) (map wish_of c.args.wishes.now))
new c =
    let wishes = c.args.wishes.now in
    let ws = map wish_of wishes in
    let i = c.args.i in
    let w = c.wish-item.result in
    let k = c.in-Some.key in
    let is = rest_first wishes c.split_at.result.1.now i w c.split_at.ensures.back c.wish-item.is in
    let e = sym c.key.ensures ∙ c.in-Some.is in
    let any : c.any.result ≡ list_any (has_key k) (take i ws) =
    any_from_yields_List _ _ _ _ c.any.ensures.ran (YieldsList-from_slice c.split_at.result.0.now cc) (λ x b q k. search (rules, tests))
    ∙ any_has_key k c.split_at.result.0.now ∙ ap (λ l. list_any (has_key k) (map wish_of l)) c.split_at.ensures.front ∙ ap (list_any (has_key k)) (sym (take-map wish_of i wishes)) in
    let later = rest_more wishes c.split_at.result.1.now i c.split_at.ensures.back in
    let begun = begins wishes i w c.requires is k e (sym any ∙ c.if-not-any.true) in (
      subst (IsGroup c.in_ok-of.field-0) (sym begun)
          (subst (λ l. IsGroup c.in_ok-of.field-0 (record { level = w.level; weight = w.weight; members = (wish_of w).literals ∷ map (λ (v : WishModel). v.literals) (filter (has_key k) (map wish_of l)) })) later c.in_ok-of.ensures),
      sym (more_groups wishes i w c.requires is k c.any.result e any ∙ ap (λ b. first_groups i ws ++ cond b [] (group ws k ∷ [])) c.if-not-any.true),
    )

pub returns-in_ok-add-clause-singles : goal.returns-in_ok-add-clause-singles
returns-in_ok-add-clause-singles c = λ ms h.
    let ws = map wish_of c.args.wishes.now in
    let before = first_groups c.args.i ws in
    let g = group ws c.in-Some.key in
    let made = new c in
    subst (AllZip IsSingle (vec_items c.add.new.singles))
    (append_assoc ms (filter is_single before) (filter is_single (g ∷ [])) ∙ ap (λ gs. ms ++ gs) (sym (passes_more is_single before g) ∙ ap (filter is_single) made.1))
    (c.in_ok-add.ensures.singles (ms ++ filter is_single before) g made.0 h)

pub returns-in_ok-add-clause-groups : goal.returns-in_ok-add-clause-groups
returns-in_ok-add-clause-groups c = λ h.
    let ws = map wish_of c.args.wishes.now in
    let before = first_groups c.args.i ws in
    let g = group ws c.in-Some.key in
    let made = new c in
    subst (AllZip IsGroup (vec_items c.add.new.groups)) (sym (passes_more is_larger before g) ∙ ap (filter is_larger) made.1) (c.in_ok-add.ensures.groups (filter is_larger before) g made.0 h)
