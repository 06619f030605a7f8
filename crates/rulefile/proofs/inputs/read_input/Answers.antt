use Rattle.std.proofs.Common.{◌≡◌, take, IfSome, rules, sym, ap, ◌∙◌, subst}
use Rattle.std.proofs.lemmas.List.{with_items_is, places}
use Rattle.rulefile.specs.Reading.{input_bytes, Enough}
use Rattle.rulefile.proofs.Given.{gives_first, means_all}
use Rattle.rulefile.proofs.inputs.read_input.Goals as goal

pub returns-clause-first : goal.returns-clause-first
returns-clause-first g c =
    let read = c.in_ok-length.ensures in
    let items = c.truncate.ensures.items ∙ ap (take c.in_ok-length.length) (with_items_is c.in_ok-file.file c.fill.new.buffer (search (rules, places))) in
    subst (λ l. IfSome (g.R.Read.remaining c.args.input.now) (λ bytes. l ≡ take input_bytes bytes)) (sym items)
    (gives_first _ _ input_bytes c.in_ok-length.length c.fill.new.buffer (search (rules, places)) read.within read.bytes read.end).0

pub returns-clause-rest : goal.returns-clause-rest
returns-clause-rest g c =
    let read = c.in_ok-length.ensures in
    (gives_first _ _ input_bytes c.in_ok-length.length c.fill.new.buffer (search (rules, places)) read.within read.bytes read.end).1

pub returns-clause-meaning : goal.returns-clause-meaning
returns-clause-meaning g c =
    means_all _ input_bytes c.truncate.new.self.items (subst Enough c.input_limit.ensures.value c.input_limit.ensures.enough) (returns-clause-first g c)
