use Rattle.logs.proofs.Splitting.{refused_at, says_nothing, finds_no_memory, length-lines}
use Rattle.logs.proofs.reading.read_log.Goals as goal
use Rattle.logs.specs.Logs.{lines}
use Rattle.std.proofs.Common.{◌≡◌, ◌+◌, ◌<◌, ◌^◌, length, vec_items, arith, rules}

pub loop-before-init-derived : goal.loop-before-init-derived
loop-before-init-derived g c =
    let few : length (lines c.args.log.now) < 2 ^ 64 = omega (arith, length-lines c.args.log.now) in
    search (rules, few)

pub returns-in_err-says : goal.returns-in_err-says
returns-in_err-says g c =
    let step = c.in-Some.ensures.steps in
    let value = rw c.in_err-says.ensures.ok_part at c.in_err-says.ensures.value in
    let none = rw c.in_err-says.ensures.ok_part at c.read.ensures in
    let is : c.in_err-says.field-0.0 ≡ refused_at (c.in-Some.before + 1) 6 = search (rules, value) in
    says_nothing g.L.Line.text c.args.log.now (vec_items c.loop-before.said) c.in-Some.before _ _ _ c.loop-before.invariant.rest step.0 (omega (arith, step.1, c.loop-before.invariant.count)) none _ _ c.from_residual.ensures.1 is

pub returns-in_err-map_err : goal.returns-in_err-map_err
returns-in_err-map_err g c =
    let step = c.in-Some.ensures.steps in
    let some = rw c.in_ok-says.ensures.ok_part at c.read.ensures in
    let is : c.in_err-map_err.field-0.0 ≡ refused_at (c.in-Some.before + 1) 24 = search rules in
    finds_no_memory g.L.Line.text c.args.log.now (vec_items c.loop-before.said) c.in-Some.before _ _ _ c.loop-before.invariant.rest step.0 (omega (arith, step.1, c.loop-before.invariant.count)) _ some _ _ c.from_residual-in_err-map_err.ensures.1 is
