use Rattle.std.proofs.Common.{◌≡◌, ℕ, ◌-◌, ◌<◌, List, length, Ok, Err, sym, ap, ◌∙◌, arith, rules, Bor}
use Rattle.rulefile.specs.declared.draft.Draft.{Draft}
use Rattle.rulefile.specs.Answers.{located_at}
use Rattle.rulefile.proofs.Accepted.{accepted}
use Rattle.rulefile.proofs.Complete.{reading}
use Rattle.rulefile.proofs.Drafts.{decode_long, decode_refused, decode_first, records_all, records_refused, records_more, some_left, none_left, read_fault, map_err_failed, map_err_kept}
use Rattle.rulefile.proofs.reader.read.Goals as goal

pub returns-then-size-gt-MOST_BYTES : goal.returns-then-size-gt-MOST_BYTES
returns-then-size-gt-MOST_BYTES c = rw c.located.ensures (reading _ _ (decode_long c.args.bytes.now c.if-size-gt-MOST_BYTES.true))

pub returns-in_err-draft : goal.returns-in_err-draft
returns-in_err-draft c =
    let w = map_err_failed _ _ _ c.begin.result c.map_err.result c.in_err-draft.field-0.0 c.in_err-draft.was c.begin.ensures.value c.map_err.ensures.cases in
    let is : c.in_err-draft.field-0.0 ≡ located_at w.0 0 = search rules in
    let out : c.from_residual.result ≡ Err c.in_err-draft.field-0.0 = search rules in
    rw (out, is) (reading _ _ (read_fault w.0 0 w.1 (λ why e. decode_refused c.args.bytes.now (omega arith) e)))

pub returns-in_err-rest : goal.returns-in_err-rest
returns-in_err-rest c =
    let w = map_err_failed _ _ _ c.add_first.result c.map_err-in-loop-rest.result c.in_err-rest.field-0.0 c.in_err-rest.was c.add_first.ensures.value c.map_err-in-loop-rest.ensures.cases in
    let is : c.in_err-rest.field-0.0 ≡ located_at w.0 (length c.args.bytes.now - length c.loop-rest.rest.now) = search rules in
    let out : c.from_residual-in_err-rest.result ≡ Err c.in_err-rest.field-0.0 = search rules in
    rw (out, is)
    (reading _ _ (read_fault w.0 _ w.1 (λ why e. c.loop-rest.invariant.1.2 ∙ records_refused c.loop-rest.invariant.1.0 _ _ c.loop-rest.rest.now (some_left _ c.loop-rest-test.ensures) c.loop-rest.invariant.1.1 e)))

pub loop-rest-init : goal.loop-rest-init
loop-rest-init c =
    let w = map_err_kept _ _ _ c.begin.result c.map_err.result (c.in_ok-draft.draft, c.in_ok-draft.rest) c.in_ok-draft.was c.begin.ensures.value c.map_err.ensures.cases in
    let s = map_err_kept (λ (p : Draft × Bor (List ℕ)). length p.1.now < length c.args.bytes.now) (λ _. Unit {0}) _ c.begin.result c.map_err.result (c.in_ok-draft.draft, c.in_ok-draft.rest) c.in_ok-draft.was c.begin.ensures.shorter c.map_err.ensures.cases in
    (omega (arith, s), (length c.args.bytes.now, omega (arith, s), decode_first c.args.bytes.now _ _ (omega arith) w))

pub loop-rest-preserved : goal.loop-rest-preserved
loop-rest-preserved c =
    let w = map_err_kept _ _ _ c.add_first.result c.map_err-in-loop-rest.result c.in_ok-rest.rest c.in_ok-rest.was c.add_first.ensures.value c.map_err-in-loop-rest.ensures.cases in
    let s = map_err_kept (λ (r : Bor (List ℕ)). length r.now < length c.loop-rest.rest.now) (λ _. Unit {0}) _ c.add_first.result c.map_err-in-loop-rest.result c.in_ok-rest.rest c.in_ok-rest.was c.add_first.ensures.shorter c.map_err-in-loop-rest.ensures.cases in
    let m = records_more c.loop-rest.invariant.1.0 (length c.args.bytes.now) _ _ c.loop-rest.rest.now _ (some_left _ c.loop-rest-test.ensures) c.loop-rest.invariant.1.1 w in
    (omega (arith, s, c.loop-rest.invariant.0), (m.0, omega (arith, s, c.loop-rest.invariant.1.1, m.1), c.loop-rest.invariant.1.2 ∙ m.2))

pub finish-requires : goal.finish-requires
finish-requires c = (accepted c.args.bytes.now _ (c.loop-rest.invariant.1.2 ∙ records_all c.loop-rest.invariant.1.0 _ _ c.loop-rest.rest.now (none_left _ c.loop-rest-test.ensures))).fits

pub returns : goal.returns
returns c =
    reading _ _ (c.loop-rest.invariant.1.2 ∙ records_all c.loop-rest.invariant.1.0 _ _ c.loop-rest.rest.now (none_left _ c.loop-rest-test.ensures) ∙ ap Ok (sym c.in_ok-finish.ensures))
