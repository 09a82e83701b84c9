use Rattle.std.proofs.Common.{rules}
use Rattle.language.proofs.Entering.{put_is}
use Rattle.language.proofs.targets.enter_one.Goals as goal

pub returns : goal.returns
returns g c =
    let put = put_is c.args.index.now c.args.target c.in-Some.key c.args.line c.in-Some.is c.enter.new.self _ (λ f e k. search rules) c.enter.result c.map_err.result c.enter.ensures.entered c.map_err.ensures.cases in
    record { room = put.room; answer = put.answer; same = c.enter.ensures.same }
