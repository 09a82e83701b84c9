use Rattle.std.proofs.Common.{◌≡◌, length, take, refl, arith}
use Rattle.forms.specs.Model.{name_at}
use Rattle.language.proofs.Cut.{cut_length, name_cut}
use Rattle.language.proofs.names.within_line.Goals as goal

pub returns : goal.returns
returns c =
    let s = c.args.text.now in
    let long : c.min.result ≡ length (name_at (take c.args.end s) c.args.place).bytes = omega (arith, cut_length s c.args.end c.args.place, c.min.ensures, c.saturating_sub.ensures, c.min-code.ensures) in
    record { name = name_cut s c.args.end c.args.place c.min.result long; from = refl; length = long }
