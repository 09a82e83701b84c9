use Rattle.std.proofs.Common.{◌≡◌, ◌&&◌, max, leb, rules, sym, ap, ◌∙◌}
use borrow.Author.Tests.{tests}
use Rattle.std.proofs.lemmas.Iterator.{YieldsList-from_slice, YieldsList-from_map}
use Rattle.std.proofs.lemmas.Iterator.Consumers.{YieldsList-at, YieldsList-from_filter}
use Rattle.std.specs.List.{reduce}
use Rattle.index.specs.Nearest.{nearest_up_to}
use Rattle.index.specs.Entries.{lines_with, entries}
use Rattle.index.proofs.Nearness.{lines_picked, up_to_says}
use Rattle.index.proofs.Reducing.{reduced}
use Rattle.index.proofs.index.Index.up_to.Goals as goal

pub returns : goal.returns
unfolding nearest_up_to
returns g c =
    let same = g.K.Key.same c.args.text.now in
    let key = c.args.key.now in
    let es = entries c.args.self.now in
    let is : c.reduce.result ≡ nearest_up_to c.args.line (lines_with same key es) =
    reduced _ max _ (λ a x b q k. search rules) (YieldsList-from_map _ (λ e. e.line) (YieldsList-at c.map.ensures.source (YieldsList-from_filter _ (λ e. leb e.line c.args.line && same e.key key) (YieldsList-from_slice es cc) c.filter.ensures.closure (λ x r q k. search (rules, tests)))) c.map.ensures.closure (λ x r q k. search rules)) c.reduce.result c.reduce.ensures.ran
    ∙ ap (reduce max) (sym (lines_picked _ same key es)) in
    record { value = is; nearest = up_to_says c.args.line _ _ is }
