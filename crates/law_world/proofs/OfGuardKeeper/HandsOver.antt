-- Where the keeper's work goes from one of its actors to the other: a flush that rests is taken up, or one comes to rest.
use Rattle.std.proofs.Common.{◌≡◌, ◌⊎◌, inl, inr, ℕ, refl, Bool, true, false}
use Rattle.std.specs.Prelude.{not, ◌&&◌}
use Rattle.fkv_base.specs.Limits.{is_specified}
use Rattle.fkv_base.specs.declared.shapes.Shape.{Shape}
use Rattle.fkv_plane.specs.declared.asks.Ask.{Ask}
use Rattle.fkv_plane.specs.declared.asks.Ask.TheVariants.{Done}
use Rattle.fkv_plane.specs.declared.places.Places.{Places}
use Rattle.fkv_plane.specs.Passing.{passed, is_done}
use Rattle.fkv_epoch.specs.declared.claiming.Claiming.{Claiming}
use Rattle.fkv_epoch.specs.Claiming.{claim_ask, claim_next}
use Rattle.fkv_flush.specs.declared.flushing.Flushing.{Flushing}
use Rattle.fkv_flush.specs.declared.flushing.Flushing.TheVariants as flush
use Rattle.fkv_flush.specs.Flushing.{flush_ask, flush_done}
use Rattle.fkv_maintain.specs.declared.maintaining.Maintaining.{Maintaining}
use Rattle.fkv_maintain.specs.declared.maintaining.Maintaining.TheVariants as maintain
use Rattle.fkv_maintain.specs.Maintaining.{MaintainState, claim_ledto, device_asked, is_sync_due, maintain_ask, maintaining_ask, maintaining_next}
use Rattle.fkv_keeper.specs.declared.keepers.Keeping.{Keeping}
use Rattle.fkv_keeper.specs.declared.keepers.Keeping.TheVariants as keeping
use Rattle.fkv_keeper.specs.declared.answers.KeeperTold.TheVariants as told
use Rattle.fkv_keeper.specs.Keeping.{KeeperState, device_passed, keeper_ask, keeper_next, keeping_ask, keeping_next, maintain_ledto}

pub truth : (b : Bool) → (b ≡ true) ⊎ (b ≡ false)
truth true = inl refl
truth false = inr refl

-- the claims end, where a flush rests
abbrev pub claim_takes_up : Flushing → Claiming → Bool
claim_takes_up flushing next = is_sync_due flushing && is_done (claim_ask next)

abbrev pub maintain_takes_up : MaintainState → Maintaining → ℕ → Bool
maintain_takes_up m maintain.Claims reply = claim_takes_up m.flushing (claim_next m.claiming reply)
maintain_takes_up m step reply = false

abbrev pub takes_up : KeeperState → Keeping → ℕ → Bool
takes_up s keeping.Maintains reply = maintain_takes_up s.maintain s.maintain.step reply
takes_up s step reply = false

-- a flush of a living store has written all
abbrev pub flush_rests : Shape → Flushing → Bool
flush_rests shape next = not (is_specified shape.class) && is_sync_due next

abbrev pub maintain_lets_rest : Shape → MaintainState → Maintaining → Bool → Bool
maintain_lets_rest shape m maintain.Flushes true = flush_rests shape (flush_done shape.page m.flushing true)
maintain_lets_rest shape m step done = false

abbrev pub lets_rest : Shape → KeeperState → Keeping → Bool → Bool
lets_rest shape s keeping.Maintains done = maintain_lets_rest shape s.maintain s.maintain.step done
lets_rest shape s step done = false

-- a flush that is taken up makes its call next
abbrev pub claims_over : MaintainState → ℕ → Claiming → MaintainState
claims_over m end next = record m { flushing = flush.Syncs end; claiming = next; step = maintain.Claims }

over_asks : (shape : Shape) (p : Places) (s : KeeperState) (end : ℕ) (next : Claiming) (ask : Ask (Unit {0})) → is_done ask ≡ true
    → (let m : MaintainState = claim_ledto (claims_over s.maintain end next) ask in
    keeper_ask shape p (maintain_ledto (record s { maintain = m; step = keeping.Maintains }) (maintain_ask shape p m)) ≡ Done told.Device)
unfolding claim_ledto maintain_ledto keeping_ask maintaining_ask device_asked device_passed flush_ask passed
over_asks shape p s end next (Done its) e = refl
over_asks shape p s end next ask e = cc

taken_at : (shape : Shape) (p : Places) (s : KeeperState) (step : Keeping) (part : Maintaining) (flushing : Flushing) (reply : ℕ) (granted : Bool)
    → (let here : KeeperState = record s { maintain = record s.maintain { flushing = flushing; step = part }; step = step } in
    takes_up here step reply ≡ true → keeper_ask shape p (keeper_next shape p here reply granted) ≡ Done told.Device)
unfolding keeping_next maintaining_next
taken_at shape p s keeping.Maintains maintain.Claims (flush.Syncs end) reply granted up = over_asks shape p s end (claim_next s.maintain.claiming reply) (claim_ask (claim_next s.maintain.claiming reply)) up
taken_at shape p s keeping.Maintains maintain.Claims flushing reply granted up = cc
taken_at shape p s keeping.Maintains part flushing reply granted up = cc
taken_at shape p s step part flushing reply granted up = cc

pub taken_asks : (shape : Shape) (p : Places) (s : KeeperState) (reply : ℕ) (granted : Bool) → takes_up s s.step reply ≡ true → keeper_ask shape p (keeper_next shape p s reply granted) ≡ Done told.Device
taken_asks shape p s reply granted up = taken_at shape p s s.step s.maintain.step s.maintain.flushing reply granted up
