-- What a letter opens, and which command a name is. Assumes nothing.
--     kind_of l          the kind of word that the letter l opens, if it opens one
--     command_of b shut  the command that the name b is, if it is one and a blank or the end follows it (shut)
--     function_of n      the G function that n is, if it has a group
use Rattle.std.specs.Prelude.{ℕ, Bool, cond, not, List, Some, None, codes, Option}
use Rattle.std.specs.Str.{bytes_eq}
use Rattle.lexer.specs.Tokens.{Num}
use Rattle.lexer.specs.Numbers.{integer_of}
use Rattle.lexer.specs.declared.symbols.Letter.{Letter}
use Rattle.lexer.specs.declared.symbols.Letter.TheVariants.{X, Y, Z, I, J, K, F, S, T, M, G, N, R, P, Other}
use Rattle.forms.specs.Groups.{with_g, no_group}
use Rattle.sums.specs.Sums.{◌>>=◌}
use Rattle.motions.specs.declared.axes.Axis.TheVariants as on
use Rattle.forms.specs.declared.kinds.Kind.{Kind}
use Rattle.forms.specs.declared.kinds.Kind.TheVariants.{Axis as OfAxis, Centre as OfCentre, Feed as OfFeed, Speed as OfSpeed, Tool as OfTool, Action as OfAction, Function as OfFunction}
use Rattle.forms.specs.declared.kinds.Command.{Command}
use Rattle.forms.specs.declared.kinds.Command.TheVariants.{Walimon, Walimof, Trans, Atrans, Gotof, Gotob, If, Repeat}

abbrev pub kind_of : Letter → Option Kind
kind_of X = Some (OfAxis on.X)
kind_of Y = Some (OfAxis on.Y)
kind_of Z = Some (OfAxis on.Z)
kind_of I = Some (OfCentre on.X)
kind_of J = Some (OfCentre on.Y)
kind_of K = Some (OfCentre on.Z)
kind_of F = Some OfFeed
kind_of S = Some OfSpeed
kind_of T = Some OfTool
kind_of M = Some OfAction
kind_of G = Some OfFunction
kind_of N = None
kind_of R = None
kind_of P = None
kind_of Other = None

abbrev pub command_of : List ℕ → Bool → Option Command
command_of b shut =
    cond (not shut) None
    (cond (bytes_eq b (codes "walimon")) (Some Walimon)
    (cond (bytes_eq b (codes "walimof")) (Some Walimof)
    (cond (bytes_eq b (codes "trans")) (Some Trans)
    (cond (bytes_eq b (codes "atrans")) (Some Atrans)
    (cond (bytes_eq b (codes "gotof")) (Some Gotof)
    (cond (bytes_eq b (codes "gotob")) (Some Gotob)
    (cond (bytes_eq b (codes "if")) (Some If)
    (cond (bytes_eq b (codes "repeat")) (Some Repeat) None))))))))

abbrev pub function_of : Num → Option ℕ
function_of n = integer_of n >>= (λ g. with_g g no_group >>= (λ s. Some g))
