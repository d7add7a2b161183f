-- The step that raises the limit: it opens a page whose frame holds nothing that is still needed.
use Rattle.std.proofs.Common.{subst, ℕ, ◌/◌, ◌≤◌, sym, ap, arith, inl, inr}
use Rattle.fkv_log.specs.Turning.{frame_end}
use Rattle.fkv_flush.specs.GuardLevels.{levels_of}
use Rattle.fkv_flush.specs.GuardWorld.{GuardWorld, GuardEvent}
use Rattle.fkv_flush.specs.Guarded.{GuardsLimit}
use Rattle.fkv_flush.proofs.GuardSound.{IsSound}
use Rattle.fkv_flush.proofs.GuardUnwritten.{limit_stays}
use Rattle.fkv_flush.proofs.GuardWorks.{Known}

-- The Cas of the limit is won where all below the frame's end is closed. So that is flushed, and each session that counts has seen a head no lower.
pub guards_limit : (w : GuardWorld) (event : GuardEvent) → IsSound w → GuardsLimit w event
guards_limit w event sound up = elim (limit_stays w event sound) [
  | inl same ↦ absurd (omega (arith, same, up))
  | inr r ↦
      let k = subst (Known w r.actor r.x) r.its_work (sound.knows r.actor r.x r.its_actor) in
      let o = sound.guard.in_order in
      let c : frame_end w.now.shape r.limit ≤ (levels_of w.now.words).closed = k.1 in
      let i = o.closed_below in
      let j = o.head_below in (
        r.limit / w.now.shape.page,
        r.raised,
        record {
          next = let found = r.found in ap (λ (limit : ℕ). limit / w.now.shape.page) (sym found);
          on_device = k.2;
          flushed = omega (arith, c, i, j);
          seen = λ s g. let h = sound.guard.safe.head s g in omega (arith, c, h);
        },
      )
]
