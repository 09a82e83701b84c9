use Rattle.std.proofs.Common.{lit<, rules}
use mir.Syntax.{w128}
use Rattle.algebra.proofs.Bounded.{add, add_fits}
use Rattle.algebra.proofs.Computed.{product_num}
use Rattle.geometry.proofs.edge.asking.rise.Goals as goal

pub overflow_add-result-2 : goal.overflow_add-result-2
overflow_add-result-2 c =
    let n = c.args.normal.now in
    let t = c.args.at.now in
    let x = product_num n.x t.x (search rules) (search rules) c.product.type_inv c.product.ensures.value c.from.ensures in
    let y = product_num n.y t.y (search rules) (search rules) c.product-2.type_inv c.product-2.ensures.value c.from-2.ensures in
    let z = product_num n.z t.z (search rules) (search rules) c.product-3.type_inv c.product-3.ensures.value c.from-3.ensures in
    add_fits w128 (add w128 x y (lit< tt)) z (lit< tt)

pub returns : goal.returns
returns c =
    let n = c.args.normal.now in
    let t = c.args.at.now in
    let x = product_num n.x t.x (search rules) (search rules) c.product.type_inv c.product.ensures.value c.from.ensures in
    let y = product_num n.y t.y (search rules) (search rules) c.product-2.type_inv c.product-2.ensures.value c.from-2.ensures in
    let z = product_num n.z t.z (search rules) (search rules) c.product-3.type_inv c.product-3.ensures.value c.from-3.ensures in
    record { value = (add w128 (add w128 x y (lit< tt)) z (lit< tt)).is }
