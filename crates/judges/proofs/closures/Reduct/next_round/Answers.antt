use Rattle.std.proofs.Common.{◌≡◌, fold, sym, ◌∙◌, rules}
use Rattle.std.proofs.lemmas.List.Folds.{fold-map}
use Rattle.rulefile.specs.Model.{rule_of}
use Rattle.judges.specs.Rounds.{fired}
use Rattle.judges.proofs.closures.Reduct.next_round.Goals as goal

pub returns : goal.returns
returns c =
    let e : c.fold.result ≡ fold (λ marks r. fired c.args.self.now.sheet (rule_of r) marks) c.args.reached c.args.self.now.rules.now = search rules in
    e ∙ sym (fold-map (λ marks r. fired c.args.self.now.sheet r marks) rule_of c.args.reached c.args.self.now.rules.now)
