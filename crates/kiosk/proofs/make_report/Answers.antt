use Rattle.std.proofs.Common.{◌≡◌, take, IfSome, rules, sym, ap, ◌∙◌, subst}
use Rattle.std.proofs.lemmas.List.{with_items_is, places}
use Rattle.rulefile.specs.Format.{decode}
use Rattle.report.specs.Reports.{Report}
use Rattle.report.proofs.Buffers.{front}
use Rattle.kiosk.proofs.Shown.{whole}
use Rattle.kiosk.proofs.make_report.Goals as goal

pub returns-clause-report : goal.returns-clause-report
returns-clause-report g c =
    let written = c.in_ok-length.ensures in
    let n = c.in_ok-length.length in
    let items = c.truncate.ensures.items ∙ ap (take n) (with_items_is c.in_ok-lines.lines c.report.new.out (search (rules, places)))
    ∙ front written.lines _ c.report.new.out n written.many written.buffer in
    subst (λ l. IfSome (g.R.Read.remaining c.args.input.now) (λ bytes. Report bytes l)) (sym items)
    (whole _ c.as_slice.result.now written.lines written.promised
    (subst (λ l. IfSome (g.R.Read.remaining c.args.input.now) (λ bytes. decode l ≡ decode bytes)) (sym c.as_slice.ensures.value) c.in_ok-file.ensures.meaning))
