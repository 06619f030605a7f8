use Rattle.std.proofs.Common.{◌≡◌, List, subst, rules}
use Rattle.std.specs.Array.Iter.{array_into_iter_items, array_steps}
use Rattle.std.specs.declared.array.IntoIter.{IntoIter}
use Rattle.std.proofs.lemmas.Iterator.{YieldsList, items_from_collect, YieldsList-from_slice, YieldsList-from_map}
use Rattle.std.proofs.lemmas.Iterator.Consumers.{YieldsList-from_shown, YieldsList-from_chain}
use Rattle.orders.specs.declared.calls.Call.{Call}
use Rattle.report.specs.Lines.{call_of}
use Rattle.report.proofs.settling.calls_after.Goals as goal

-- an array's iterator gives its items
array_gives : (s : IntoIter Call 2) (calls : List Call) → array_into_iter_items s ≡ calls → YieldsList array_steps (λ x. x) s calls
array_gives s calls e = subst (YieldsList array_steps (λ x. x) s) e (YieldsList-from_shown array_steps (λ x. x) array_into_iter_items (λ s t none. none.0) (λ s x t some. some) s)

pub returns : goal.returns
returns c =
    items_from_collect _ c.collect.ensures.ran
    (YieldsList-from_chain
    (YieldsList-from_map _ call_of (YieldsList-from_slice c.args.acts.now (cc)) (cc) (λ x r q k. search rules))
    (array_gives _ _ c.chain.ensures.second.0) (cc) (cc))
