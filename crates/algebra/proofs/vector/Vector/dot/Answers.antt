use Rattle.std.proofs.Common.{lit<, rules}
use mir.Syntax.{w128}
use Rattle.algebra.proofs.Bounded.{computed, add, add_fits}
use Rattle.algebra.proofs.Computed.{product_num}
use Rattle.algebra.proofs.vector.Vector.dot.Goals as goal

pub overflow_add-result : goal.overflow_add-result
overflow_add-result c =
    let p = product_num c.args.self.u c.args.other.u (search rules) (search rules) c.product.type_inv c.product.ensures.value c.from.ensures in
    let q = product_num c.args.self.v c.args.other.v (search rules) (search rules) c.product-2.type_inv c.product-2.ensures.value c.from-2.ensures in
    add_fits w128 p q (lit< tt)

pub returns : goal.returns
returns c =
    let p = product_num c.args.self.u c.args.other.u (search rules) (search rules) c.product.type_inv c.product.ensures.value c.from.ensures in
    let q = product_num c.args.self.v c.args.other.v (search rules) (search rules) c.product-2.type_inv c.product-2.ensures.value c.from-2.ensures in
    let r = add w128 p q (lit< tt) in
    record { value = r.is; bound = computed r }
