use Rattle.std.proofs.Common.{◌≡◌, ◌+◌, ◌≤◌, ◌++◌, [], length, ap, arith}
use Rattle.arena_model.specs.Layout.{children_at}
use Rattle.bubble_pass.specs.Marks.{partials_at, fulls_at}
use Rattle.templates_q.proofs.Lines.{partials_in, fulls_in, fulls_append, count_full}
use Rattle.templates_q.proofs.Finding.{read_partials, read_fulls, line_next, line_shown, line_found}
use Rattle.templates_q.proofs.q2.find_line.Goals as goal

pub pass-requires-clause-place : goal.pass-requires-clause-place
pass-requires-clause-place g c = let s = c.full_side-side.ensures.side in (c.args.node.index, [], s.0, s.1)

pub unreachable-requires : goal.unreachable-requires
unreachable-requires g c =
    let f = c.args.arena.now in let w = c.args.work.now in let n = c.args.node.index in let s = c.full_side-side.ensures.side in
    let some : 1 ≤ partials_in w s.0 = (let a : partials_at w n ≡ partials_in w (children_at f n) = c.requires.ready.right.partial in
    let b : partials_in w (children_at f n) ≡ partials_in w s.0 = read_partials f w n s.0 s.1.children in let d : 1 ≤ partials_at w n = c.requires.some in omega arith) in
    line_shown f w n c.pass.result.gap c.layout_law.ensures
    (line_next f w n s.0 c.pass.result (c.pass.ensures.passed n [] s.0 s.1) c.pass.ensures.stops s.2 some) c.in_default.is

pub returns-clause-line : goal.returns-clause-line
returns-clause-line g c =
    let f = c.args.arena.now in let w = c.args.work.now in let n = c.args.node.index in let s = c.full_side-side.ensures.side in
    let some : 1 ≤ partials_in w s.0 = (let a : partials_at w n ≡ partials_in w (children_at f n) = c.requires.ready.right.partial in
    let b : partials_in w (children_at f n) ≡ partials_in w s.0 = read_partials f w n s.0 s.1.children in let d : 1 ≤ partials_at w n = c.requires.some in omega arith) in
    line_found f w n c.pass.result.gap c.in-Some.child c.layout_law.ensures
    (line_next f w n s.0 c.pass.result (c.pass.ensures.passed n [] s.0 s.1) c.pass.ensures.stops s.2 some) c.in-Some.is

pub returns-clause-ticks : goal.returns-clause-ticks
returns-clause-ticks g c =
    let f = c.args.arena.now in let w = c.args.work.now in let n = c.args.node.index in let s = c.full_side-side.ensures.side in
    let p = c.pass.ensures.passed n [] s.0 s.1 in
    let x : fulls_in w p.ks ≡ length p.ks = (count_full w p.ks p.marked).0 in
    let k : length p.ks ≡ c.pass.result.count = p.count in
    let a : fulls_at w n ≡ fulls_in w (children_at f n) = c.requires.ready.right.full in
    let b : fulls_in w (children_at f n) ≡ fulls_in w s.0 = read_fulls f w n s.0 s.1.children in
    let e : fulls_in w s.0 ≡ fulls_in w (p.ks ++ p.rest) = ap (fulls_in w) p.is in
    let t : c.pass.new.steps ≡ c.full_side-side.new.steps + c.pass.result.count = c.pass.ensures.ticks in
    let u : c.full_side-side.new.steps ≤ c.look-view.new.steps + fulls_at w n + partials_at w n = c.full_side-side.ensures.ticks in
    let v : c.look-view.new.steps ≡ c.args.steps.now + 1 = c.look-view.ensures.ticks in
    omega (arith, fulls_append w p.ks p.rest)
