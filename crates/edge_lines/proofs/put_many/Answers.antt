-- `put_many` meets its contract. The loop has put so many matches. Assumes nothing.
use mathlib.Core.Path.{◌≡◌, refl, ap}
use native.Mathlib.Omega.{arith}
use lib.ListN.{length-append}
use Rattle.text.proofs.Stores.{put_then, put_same}
use Rattle.edge_lines.specs.Scripts.{directs, many}
use Rattle.edge_lines.proofs.WholeScripts.{put_whole, directs-next, directs-length}
use Rattle.edge_lines.proofs.put_many.Goals as goal

pub loop-init : goal.loop-init
unfolding directs
loop-init c = record { place = omega arith; stored = refl }

pub put_bytes-at-requires-in-loop : goal.put_bytes-at-requires-in-loop
put_bytes-at-requires-in-loop c = omega (arith, c.put_bytes-at.ensures, directs-length c.loop.counter)

pub loop-preserved : goal.loop-preserved
loop-preserved c =
    put_same (directs-next c.loop.counter) (put_then c.loop.invariant c.put_bytes-at-in-loop.ensures)

pub put_byte-requires : goal.put_byte-requires
put_byte-requires c = omega (arith, c.put_bytes-at.ensures, directs-length c.loop.counter)

pub returns : goal.returns
returns c =
    let count = c.args.count in
    let all : c.loop.counter ≡ count = omega arith in
    let put = put_then (put_then c.put_bytes-at.ensures c.loop.invariant) c.put_byte.ensures in
    put_whole (put_same (ap many all) put) (simp length-append (omega (arith, directs-length count)))
