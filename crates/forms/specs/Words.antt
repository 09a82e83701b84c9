-- The words of a line: each address once. V is what an axis value is held as. Assumes nothing.
--     Each V             a V for each axis that is named
--     no_words           no word at all
--     on_axis x v a      a with v for the axis x as well, or None where it has one already
--     entered w ws       ws with the word w as well, or None where its address, or its group of G functions, has one already
--     only_axes ws       the axis words, where there are no others
--     some_axis a        a, where at least one axis has something
use Rattle.std.specs.Prelude.{Bool, cond, ◌&&◌, is_none, Some, None, Option}
use Rattle.std.specs.Option.{option_map}
use Rattle.motions.specs.Axes.{coordinate, alike, set_on, none_named}
use Rattle.motions.specs.declared.axes.Axes.{Axes}
use Rattle.motions.specs.declared.axes.Axis.{Axis}
use Rattle.forms.specs.Groups.{once, with_g, no_modal, no_flag, no_group}
use Rattle.forms.specs.declared.said.Word.{Word}
use Rattle.forms.specs.declared.said.Word.TheVariants.{Function, Axis as OnAxis, Centre, Feed, Speed, Tool, Action, Area}
use Rattle.forms.specs.declared.said.Words.{Words}

abbrev pub Each : Type 0 → Type 0
Each V = Axes (Option V)

module _ {V : Type 0} where
  abbrev pub no_words : Words V
  no_words = record { groups = no_group; axes = alike None; centres = alike None; feed = None; speed = None; tool = None; action = None; area = None }

  abbrev pub on_axis : Axis → V → Each V → Option (Each V)
  on_axis x v a = once (coordinate x a) (set_on x (Some v) a)

  abbrev pub entered : Word V → Words V → Option (Words V)
  entered (Function g) ws = option_map (λ s. record { groups = s; axes = ws.axes; centres = ws.centres; feed = ws.feed; speed = ws.speed; tool = ws.tool; action = ws.action; area = ws.area }) (with_g g ws.groups)
  entered (OnAxis a v) ws = option_map (λ s. record { groups = ws.groups; axes = s; centres = ws.centres; feed = ws.feed; speed = ws.speed; tool = ws.tool; action = ws.action; area = ws.area }) (on_axis a v ws.axes)
  entered (Centre a v) ws = option_map (λ s. record { groups = ws.groups; axes = ws.axes; centres = s; feed = ws.feed; speed = ws.speed; tool = ws.tool; action = ws.action; area = ws.area }) (on_axis a v ws.centres)
  entered (Feed v) ws = once ws.feed (record { groups = ws.groups; axes = ws.axes; centres = ws.centres; feed = Some v; speed = ws.speed; tool = ws.tool; action = ws.action; area = ws.area })
  entered (Speed v) ws = once ws.speed (record { groups = ws.groups; axes = ws.axes; centres = ws.centres; feed = ws.feed; speed = Some v; tool = ws.tool; action = ws.action; area = ws.area })
  entered (Tool v) ws = once ws.tool (record { groups = ws.groups; axes = ws.axes; centres = ws.centres; feed = ws.feed; speed = ws.speed; tool = Some v; action = ws.action; area = ws.area })
  entered (Action v) ws = once ws.action (record { groups = ws.groups; axes = ws.axes; centres = ws.centres; feed = ws.feed; speed = ws.speed; tool = ws.tool; action = Some v; area = ws.area })
  entered (Area b) ws = once ws.area (record { groups = ws.groups; axes = ws.axes; centres = ws.centres; feed = ws.feed; speed = ws.speed; tool = ws.tool; action = ws.action; area = Some b })

  abbrev pub no_numbered : Words V → Bool
  no_numbered ws = is_none ws.feed && (is_none ws.speed && (is_none ws.tool && is_none ws.action))

  abbrev pub only_axes : Words V → Option (Each V)
  only_axes ws = cond ((no_modal ws.groups && no_flag ws.groups) && (none_named ws.centres && (no_numbered ws && is_none ws.area))) (Some ws.axes) None

  abbrev pub some_axis : Each V → Option (Each V)
  some_axis a = cond (none_named a) None (Some a)
