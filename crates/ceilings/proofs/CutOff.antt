-- What is best over a judge with a ceiling, from what is best over the judge below.
use Rattle.std.proofs.Common.{◌≡◌, ℕ, ◌≤◌, Bool, true, false, cond, List, [], ◌∷◌, Some, None, Option, refl, ap, ◌∙◌, sym}
use Rattle.std.specs.List.{list_all}
use Rattle.std.proofs.lemmas.Bool.{both_ways}
use Rattle.total_order.specs.laws.Orders.{less_at_most}
use Rattle.sheets.specs.Sheets.{width}
use Rattle.sheets.specs.Judging.{Judging, JudgeLaws}
use Rattle.sheets.specs.Scaling.{Scaling, ScaleLaws}
use Rattle.sheets.specs.Ceilings.{with_ceiling}
use Rattle.orders.specs.declared.acts.Act.{Act}
use Rattle.orders.specs.declared.calls.Call.{Call}
use Rattle.orders.specs.declared.calls.Event.{Event}
use Rattle.orders.specs.Acts.{in_range, under}
use Rattle.orders.specs.Best.{Best}
use Rattle.orders.specs.Stages.{Effect, adds, takes_off, begins, takes_steps, ends, moves, row}
use Rattle.orders.specs.Logs.{after_effect, after_call, after_calls, docket, calls_of, Conducted}
use Rattle.orders.specs.laws.Under.{under_laws}
use Rattle.orders.proofs.Dockets.{all_after_act, all_after_undo}
use Rattle.ceilings.specs.CutOff.{cut_off, CutOff, ConductedBelow}
use Rattle.ceilings.proofs.Best.{best_one, best_there}

-- ---- the acts of a docket name only marks that there are

low_effect : (n : ℕ) (acts : List Act) (e : Effect) → n ≤ width → list_all in_range acts ≡ true → list_all in_range (after_effect n acts e) ≡ true
low_effect n acts (adds a) few low = all_after_act n acts a few low
low_effect n acts takes_off few low = all_after_undo acts low
low_effect n acts begins few low = low
low_effect n acts (takes_steps k) few low = low
low_effect n acts ends few low = low
low_effect n acts moves few low = low

low_calls : (n : ℕ) (acts : List Act) (calls : List Call) → n ≤ width → list_all in_range acts ≡ true → list_all in_range (after_calls n acts calls) ≡ true
low_calls n acts [] few low = low
low_calls n acts (c ∷ calls) few low = low_calls n (after_call n acts c) calls few (low_effect n acts (row c).effect few low)

module _ {C : Type 0} (j : Judging) (s : Scaling C) (ceiling : C) (jl : JudgeLaws j) (sl : ScaleLaws s) where
  -- ---- under any acts

  module _ (acts : List Act) where
    -- a sheet under the ceiling is one of the judge below
    best_cut : (whole : Option (ℕ × C)) → Best (under j acts) s whole → Best (under (with_ceiling j s ceiling) acts) s (cut_off s ceiling whole)
    best_cut None best = λ z al. best z (al.0.0, al.1)
    best_cut (Some a) best = go (s.below ceiling a.1) refl
      where
        go : (dear : Bool) → s.below ceiling a.1 ≡ dear → Best (under (with_ceiling j s ceiling) acts) s (cond dear None (Some a))
        go true t = λ z al. both_ways (s.below ceiling (s.cost z)) al.0.1 (less_at_most s.below sl.order ceiling a.1 (s.cost z) t (best.least z (al.0.0, al.1)))
        go false f = record {
          allowed = ((best.allowed.0, ap (s.below ceiling) (sym best.its_cost) ∙ f), best.allowed.1);
          its_cost = best.its_cost;
          least = λ y al. best.least y (al.0.0, al.1);
          first = λ y al earlier. best.first y (al.0.0, al.1) earlier;
        }

    pub cut : list_all in_range acts ≡ true → (answer : Option (ℕ × C)) → Best (under (with_ceiling j s ceiling) acts) s answer → CutOff j s ceiling acts answer
    cut low answer best =
        let laws = under_laws j acts low jl in
        let whole = best_there (under j acts) s laws sl in
        record {
          whole = whole.0;
          best = whole.1;
          only = λ other b. best_one (under j acts) s j.count laws.inside other whole.0 b whole.1;
          cut = best_one (under (with_ceiling j s ceiling) acts) s j.count (λ z al. jl.inside z al.0.0) answer (cut_off s ceiling whole.0) best (best_cut whole.0 whole.1);
        }

  -- ---- a whole log

  pub conducted_below : (room : ℕ) (calls : List Call) (before after : List (Event C)) → Conducted (with_ceiling j s ceiling) s room calls before after → ConductedBelow j s ceiling room calls before after
  conducted_below room calls before after c = record {
    conducted = c;
    settlings = λ r e.
        let settled = c.kept.settlings r e in
        (settled.0, settled.1, cut (docket j.count (calls_of e.before)) (low_calls j.count [] (calls_of e.before) jl.few refl) settled.0 settled.2.best);
  }
