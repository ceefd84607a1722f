-- The records go one behind the other, or none does. Assumes nothing.
use Prim.Native.Nat.{◌+◌, ◌*◌, ◌≤◌, ◌<◌}
use native.Mathlib.Omega.{arith}
use lib.ListN.{length}
use Rattle.rows.proofs.Rowed.{ahead_begins, ahead_more, ahead_ends, none_ahead}
use Rattle.rows.proofs.laid.put_all.Goals as goal

pub returns-then-not-has_room : goal.returns-then-not-has_room
returns-then-not-has_room g c =
    let a = c.args in
    let n = length a.row.now in
    let long = g.L.Layout.LONG in
    let h : length a.out.now < a.at + n * long = rw (← c.LONG.ensures) (grind arith) in
    none_ahead g.L.Layout.bytes long g.met.L.Layout.even a.row.now a.out.now a.at h

pub loop-x-init : goal.loop-x-init
loop-x-init g c =
    let a = c.args in
    let h : a.at + length a.row.now * g.L.Layout.LONG ≤ length a.out.now = rw (← c.LONG.ensures) (grind arith) in
    ahead_begins g.L.Layout.bytes g.L.Layout.LONG g.met.L.Layout.even a.row.now a.out.now a.at h

pub loop-x-preserved : goal.loop-x-preserved
loop-x-preserved g c =
    let a = c.args in
    let l = c.loop-x in
    let x = c.x-item in
    let h : l.x-index < length a.row.now = c.loop-x-test.true in
    ahead_more g.L.Layout.bytes g.L.Layout.LONG g.met.L.Layout.even a.row.now a.out.now a.at l.out l.x-index l.p l.invariant x.result x.is h
    c.put-p.result c.put-p.new.out c.put-p.ensures

pub returns : goal.returns
returns g c =
    let a = c.args in
    let l = c.loop-x in
    let h : length a.row.now ≤ l.x-index = c.loop-x-test.false in
    ahead_ends g.L.Layout.bytes g.L.Layout.LONG g.met.L.Layout.even a.row.now a.out.now a.at l.out l.x-index l.p l.invariant h
