-- The guard as numbers: the offsets, what sessions have seen of them, the actions that were armed, and the addresses that are
-- reserved and not yet decided. One lemma says what a step has to keep.
use Rattle.std.proofs.Common.{◌≡◌, ℕ, ◌+◌, ◌<◌, ◌≤◌, ◌⊎◌, List, arith, inl, inr}
use Rattle.std.specs.Prelude.{Option, Some}
use Rattle.fkv_plane.specs.declared.actions.Action.{Action}
use Rattle.fkv_plane.specs.declared.actions.Action.TheVariants as act
use Rattle.fkv_epoch.specs.EpochWorld.{Sight, OfReadOnly, OfHead, Loads, Armed}
use Rattle.fkv_epoch.specs.Once.{Among}
use Rattle.fkv_flush.specs.GuardLevels.{Levels, AreInOrder, Rises}
use Rattle.fkv_flush.specs.GuardSeen.{LastSeen, SeenIsSafe, IsStored, HaveSeen}

-- what is known of an action that is armed at c, or about to be
pub record Known (l : Levels) (C : ℕ → Sight → Type 0) (seen : ℕ → LastSeen) (loads : ℕ → Loads) (c : ℕ) (x : Action) : Type 0 where
  pub stored : IsStored l x
  pub have_seen : HaveSeen C seen loads c x

-- an address that a session has reserved
pub record Fresh (l : Levels) (C : ℕ → Sight → Type 0) (seen : ℕ → LastSeen) (s a : ℕ) : Type 0 where
  pub counts : C s OfReadOnly
  pub above : (seen s).read_only ≤ a
  pub below : a < l.tail

pub record Guard (ring : ℕ) (l : Levels) (C : ℕ → Sight → Type 0) (seen : ℕ → LastSeen) (loads : ℕ → Loads) (armed : List Armed) (reserved : ℕ → Option ℕ) : Type 0 where
  pub in_order : AreInOrder l
  -- the open addresses fit the frames
  pub cover : l.limit ≤ l.closed + ring
  pub safe : SeenIsSafe l C seen
  pub known : (x : Armed) → Among x armed → Known l C seen loads x.epoch x.action
  pub fresh : (s a : ℕ) → reserved s ≡ Some a → Fresh l C seen s a

-- what a session goes by after a step it went by before, or it has just loaded it
pub record SeesOn (l' : Levels) (C C' : ℕ → Sight → Type 0) (seen seen' : ℕ → LastSeen) (loads loads' : ℕ → Loads) (s : ℕ) : Type 0 where
  pub read_only : C' s OfReadOnly → (C s OfReadOnly × ((seen' s).read_only ≡ (seen s).read_only) × ((loads' s).read_only ≡ (loads s).read_only)) ⊎ ((seen' s).read_only ≡ l'.read_only)
  pub head : C' s OfHead → (C s OfHead × ((seen' s).head ≡ (seen s).head) × ((loads' s).head ≡ (loads s).head)) ⊎ ((seen' s).head ≡ l'.head)
  pub read_only_below : (seen' s).read_only ≤ l'.read_only
  pub head_below : (seen' s).head ≤ l'.head

-- an action is known still
pub knows_on : (l l' : Levels) (C C' : ℕ → Sight → Type 0) (seen seen' : ℕ → LastSeen) (loads loads' : ℕ → Loads) (c : ℕ) (x : Action)
    → Rises l l' → ((s : ℕ) → SeesOn l' C C' seen seen' loads loads' s) → Known l C seen loads c x → Known l' C' seen' loads' c x
knows_on l l' C C' seen seen' loads loads' c (act.SafeReadOnly addr) up on k = record {
  stored = let u = up.read_only in let h = k.stored in omega (arith, u, h);
  have_seen = λ s counts later. elim ((on s).read_only counts) [
    | inl o ↦ let h = k.have_seen s o.0 (let e = o.2 in omega (arith, later, e)) in let e = o.1 in omega (arith, h, e)
    | inr e ↦ let u = up.read_only in let h = k.stored in omega (arith, u, h, e)
  ];
}
knows_on l l' C C' seen seen' loads loads' c (act.Close addr) up on k = record {
  stored = let u = up.head in let h = k.stored in omega (arith, u, h);
  have_seen = λ s counts later. elim ((on s).head counts) [
    | inl o ↦ let h = k.have_seen s o.0 (let e = o.2 in omega (arith, later, e)) in let e = o.1 in omega (arith, h, e)
    | inr e ↦ let u = up.head in let h = k.stored in omega (arith, u, h, e)
  ];
}
knows_on l l' C C' seen seen' loads loads' c (act.Phase phase version) up on k = record { stored = tt; have_seen = tt }

-- an address that a session still has, and has seen nothing new since, is fresh still
pub fresh_on : (l l' : Levels) (C C' : ℕ → Sight → Type 0) (seen seen' : ℕ → LastSeen) (s a : ℕ) → Rises l l' → C' s OfReadOnly → (seen' s).read_only ≡ (seen s).read_only
    → Fresh l C seen s a → Fresh l' C' seen' s a
fresh_on l l' C C' seen seen' s a up counts same f = record {
  counts = counts;
  above = let h = f.above in omega (arith, h, same);
  below = let h = f.below in let u = up.tail in omega (arith, h, u);
}

-- One step. The offsets rise and keep their order; safe read-only and closed stay below what each session goes by; each action that is
-- new among the armed is known; each address that is new among the reserved is fresh.
pub stepped : (ring : ℕ) (l l' : Levels) (C C' : ℕ → Sight → Type 0) (seen seen' : ℕ → LastSeen) (loads loads' : ℕ → Loads) (armed armed' : List Armed) (reserved reserved' : ℕ → Option ℕ)
    → Guard ring l C seen loads armed reserved
    → Rises l l' → AreInOrder l' → l'.limit ≤ l'.closed + ring
    → ((s : ℕ) → SeesOn l' C C' seen seen' loads loads' s)
    → ((s : ℕ) → C s OfReadOnly → l'.safe_read_only ≤ (seen s).read_only)
    → ((s : ℕ) → C s OfHead → l'.closed ≤ (seen s).head)
    → ((x : Armed) → Among x armed' → Among x armed ⊎ Known l' C' seen' loads' x.epoch x.action)
    → ((s a : ℕ) → reserved' s ≡ Some a → Fresh l' C' seen' s a)
    → Guard ring l' C' seen' loads' armed' reserved'
stepped ring l l' C C' seen seen' loads loads' armed armed' reserved reserved' old up order cover on low_read_only low_head news fresh =
    record {
      in_order = order;
      cover = cover;
      safe = record {
        read_only = λ s counts. elim ((on s).read_only counts) [
          | inl o ↦ let h = low_read_only s o.0 in let e = o.1 in omega (arith, h, e)
          | inr e ↦ let h = order.safe_below in omega (arith, h, e)
        ];
        head = λ s counts. elim ((on s).head counts) [
          | inl o ↦ let h = low_head s o.0 in let e = o.1 in omega (arith, h, e)
          | inr e ↦ let h = order.closed_below in omega (arith, h, e)
        ];
        read_only_below = λ s. (on s).read_only_below;
        head_below = λ s. (on s).head_below;
      };
      known = λ x among. elim (news x among) [
        | inl o ↦ knows_on l l' C C' seen seen' loads loads' x.epoch x.action up on (old.known x o)
        | inr k ↦ k
      ];
      fresh = fresh;
    }
