use Rattle.std.proofs.Common.{◌+ℤ◌, ◌*ℤ◌, ap, ◌∙◌, ap₂, lit<}
use mir.Syntax.{w128}
use Rattle.algebra.specs.declared.vector.Vector.{Vector}
use Rattle.algebra.specs.Plane.{dot}
use Rattle.algebra.proofs.Bounded.{bounded_result, add, add_fits}
use Rattle.algebra.proofs.Computed.{product_num}
use Rattle.motions.specs.declared.axes.Axis.{Axis}
use Rattle.motions.specs.Axes.{coordinate}
use Rattle.geometry.proofs.edge.Edge.centre_rise.Goals as goal

pub overflow_add-result : goal.overflow_add-result
overflow_add-result c =
    let d = bounded_result w128 c.dot.ensures.bound c.dot.ensures.value (lit< tt) in
    let p = product_num c.along.result c.along-2.result (record { sfits = c.along.type_inv }) (record { sfits = c.along-2.type_inv }) c.product-level.type_inv c.product-level.ensures.value c.from.ensures in
    add_fits w128 d p (lit< tt)

pub returns : goal.returns
returns c =
    let d = bounded_result w128 c.dot.ensures.bound c.dot.ensures.value (lit< tt) in
    let p = product_num c.along.result c.along-2.result (record { sfits = c.along.type_inv }) (record { sfits = c.along-2.type_inv }) c.product-level.type_inv c.product-level.ensures.value c.from.ensures in
    let third = c.w-third.ensures.value in
    let levels = ap₂ ◌*ℤ◌ (c.along.ensures.value ∙ ap (λ (w : Axis). coordinate w c.args.self.now.normal) third) (c.along-2.ensures.value ∙ ap (λ (w : Axis). coordinate w c.args.path.now.start) third) in
    record { value = (add w128 d p (lit< tt)).is ∙ ap₂ ◌+ℤ◌ (ap (λ (v : Vector). dot v c.args.path.now.arc.centre) c.flat.ensures.value) levels }
