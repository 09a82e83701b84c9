use Rattle.std.proofs.Common.{◌≡◌, ◌&&◌, min, ltb, rules, sym, ap, ◌∙◌}
use borrow.Author.Tests.{tests}
use Rattle.std.proofs.lemmas.Iterator.{YieldsList-from_slice, YieldsList-from_map}
use Rattle.std.proofs.lemmas.Iterator.Consumers.{YieldsList-at, YieldsList-from_filter}
use Rattle.std.specs.List.{reduce}
use Rattle.index.specs.Nearest.{nearest_after}
use Rattle.index.specs.Entries.{lines_with, entries}
use Rattle.index.proofs.Nearness.{lines_picked, after_says}
use Rattle.index.proofs.Reducing.{reduced}
use Rattle.index.proofs.index.Index.after.Goals as goal

pub returns : goal.returns
unfolding nearest_after
returns g c =
    let same = g.K.Key.same c.args.text.now in
    let key = c.args.key.now in
    let es = entries c.args.self.now in
    let is : c.reduce.result ≡ nearest_after c.args.line (lines_with same key es) =
    reduced _ min _ (λ a x b q k. search rules) (YieldsList-from_map _ (λ e. e.line) (YieldsList-at c.map.ensures.source (YieldsList-from_filter _ (λ e. ltb c.args.line e.line && same e.key key) (YieldsList-from_slice es cc) c.filter.ensures.closure (λ x r q k. search (rules, tests)))) c.map.ensures.closure (λ x r q k. search rules)) c.reduce.result c.reduce.ensures.ran
    ∙ ap (reduce min) (sym (lines_picked _ same key es)) in
    record { value = is; nearest = after_says c.args.line _ _ is }
