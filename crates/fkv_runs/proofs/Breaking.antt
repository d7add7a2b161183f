-- Runs that break off.
use Rattle.std.proofs.Common.{◌≡◌, ◌≤◌, ◌<◌, ◌+◌, ℕ, Bool, true, false, List, [], Option, Result, Ok, Err, OnErr, inl, inr, refl, length, get_or, take, subst, sym}
use Rattle.fkv_playing.specs.Below.fkv_core.Worlds.{WorldModel}
use Rattle.fkv_playing.specs.Below.fkv_core.Event.{Event}
use Rattle.fkv_playing.specs.Below.fkv_core.TheTold.{Told}
use Rattle.fkv_map.specs.declared.history.HistoryEntry.{HistoryEntry}
use Rattle.fkv_opening.specs.declared.opened_store.Opened.{Opened}
use Rattle.fkv_playing.specs.InTurn.{InTurn, Writes}
use Rattle.fkv_playing.specs.Players.{PlayerState}
use Rattle.fkv_runs.specs.Beginnings.{BreaksOff}
use Rattle.fkv_runs.specs.Files.{IsPartOfLife, IsPieceOfLife}
use Rattle.fkv_runs.specs.Openings.{Begins, Medium}
use Rattle.fkv_runs.specs.Runs.{IsCrashed, IsCrashedWhere, IsPartOfRun, IsPiece, RunModel, RunState, is_due, status_of}
use Rattle.fkv_runs.specs.declared.pieces.Piece.{Piece}
use Rattle.fkv_runs.specs.declared.settings.Settings.{Settings}
use Rattle.fkv_runs.proofs.Told.{breaks_behind, breaks_weaker}
use Rattle.fkv_runs.proofs.Turning.{next_played}

-- the crash that is due
pub due_breaks : {D : Type 0} (medium : Medium D) (settings : Settings) (before : RunState D) (due : Bool) (a b : Option (List ℕ)) → due ≡ true
    → BreaksOff (λ text. (over : Bool) × (after : RunState D) × IsCrashed medium settings before after over text) a b
    → BreaksOff (λ text. (over : Bool) × (after : RunState D) × IsCrashedWhere due medium settings before after over text) a b
due_breaks {D} medium settings before due a b is h =
    breaks_weaker (λ text. (over : Bool) × (after : RunState D) × IsCrashed medium settings before after over text) (λ text. (over : Bool) × (after : RunState D) × IsCrashedWhere due medium settings before after over text) a b
    (λ text its. (its.0, its.1, subst (λ (on : Bool). IsCrashedWhere on medium settings before its.1 its.0 text) (sym is) its.2)) h

-- a run breaks off in the next piece
pub piece_breaks : {D : Type 0} (medium : Medium D) (settings : Settings) (pieces : List Piece) (count : ℕ) (piece : Piece) (first : RunState D) (run : RunModel D) (a b c : Option (List ℕ)) → count < length pieces → piece ≡ get_or pieces count piece
    → (run.settings ≡ settings) × Writes (InTurn (IsPiece medium settings) false (take count pieces) first run.state false) a b
    → BreaksOff (λ text. (over : Bool) × (after : RunState D) × IsPiece medium run.settings piece run.state after over text) b c
    → BreaksOff (IsPartOfRun medium settings pieces first) a c
piece_breaks {D} medium settings pieces count piece first run a b c below is h k =
    let played = h.1 in
    breaks_behind (λ text. (over : Bool) × (after : RunState D) × IsPiece medium run.settings piece run.state after over text) (IsPartOfRun medium settings pieces first) played.0 a b c played.2
    (inl (count, run.state, false, played.1))
    (λ text its. inl (
      count + 1,
      its.1,
      its.0,
      next_played (IsPiece medium settings) false pieces count piece first run.state its.1 its.0 played.0 text below is played.1
          (subst (λ (settings : Settings). IsPiece medium settings piece run.state its.1 its.0 text) h.0 its.2),
    ))
    k

-- or behind the last
pub end_breaks : {A E D : Type 0} (medium : Medium D) (settings : Settings) (pieces : List Piece) (count : ℕ) (first : RunState D) (run : RunModel D) (result : Result A E) (a b c : Option (List ℕ)) → length pieces ≤ count
    → (run.settings ≡ settings) × Writes (InTurn (IsPiece medium settings) false (take count pieces) first run.state false) a b
    → OnErr result (BreaksOff (λ text. (over : Bool) × (after : RunState D) × IsCrashedWhere (is_due run.state.player.waits) medium run.settings run.state after over text) b c)
    → OnErr result (BreaksOff (IsPartOfRun medium settings pieces first) a c)
end_breaks medium settings pieces count first run (Ok value) a b c all h k = tt
end_breaks {A} {E} {D} medium settings pieces count first run (Err error) a b c all h k =
    let played = h.1 in
    breaks_behind (λ text. (over : Bool) × (after : RunState D) × IsCrashedWhere (is_due run.state.player.waits) medium run.settings run.state after over text) (IsPartOfRun medium settings pieces first) played.0 a b c played.2
    (inl (count, run.state, false, played.1))
    (λ text its. inr (
      status_of its.0 its.1.agrees,
      record {
        last = run.state;
        after = its.1;
        refused = false;
        over = its.0;
        said = played.0;
        reported = text;
        count = count;
        played = played.1;
        all = λ on. all;
        crashed = λ on. subst (λ (settings : Settings). IsCrashedWhere (is_due run.state.player.waits) medium settings run.state its.1 its.0 text) h.0 its.2;
        ends = λ (refused : false ≡ true). absurd (cc);
        says = refl;
        answers = refl;
      },
    ))
    k

-- a life that has begun
pub begun_breaks : {A E D : Type 0} (Its : PlayerState D → List ℕ → Type 0) (opened : Opened) (device : D) (history : List HistoryEntry) (checks : Bool) (player : PlayerState D) (result : Result A E) (a b : Option (List ℕ)) → history ≡ []
    → Begins opened device history checks player → OnErr result (BreaksOff (Its player) a b)
    → OnErr result (BreaksOff (λ text. (first : PlayerState D) × Begins opened device [] checks first × Its first text) a b)
begun_breaks Its opened device history checks player (Ok value) a b none begins h = tt
begun_breaks {A} {E} {D} Its opened device history checks player (Err error) a b none begins h =
    breaks_weaker (Its player) (λ text. (first : PlayerState D) × Begins opened device [] checks first × Its first text) a b
    (λ text its. (player, subst (λ (updates : List HistoryEntry). Begins opened device updates checks player) none begins, its)) h

-- a life breaks off in the next piece
pub life_breaks : {D : Type 0} (engine : Event → WorldModel D → WorldModel D → Option Told → Bool → Type 0) (pieces : List Piece) (count : ℕ) (piece : Piece) (first player : PlayerState D) (a b c : Option (List ℕ)) → count < length pieces → piece ≡ get_or pieces count piece
    → Writes (InTurn (IsPieceOfLife engine) false (take count pieces) first player false) a b
    → BreaksOff (λ text. (after : PlayerState D) × IsPieceOfLife engine piece player after false text) b c
    → BreaksOff (IsPartOfLife engine pieces first) a c
life_breaks {D} engine pieces count piece first player a b c below is played k =
    breaks_behind (λ text. (after : PlayerState D) × IsPieceOfLife engine piece player after false text) (IsPartOfLife engine pieces first) played.0 a b c played.2
    (count, record { after = player; played = played.1 })
    (λ text its. (count + 1, record { after = its.0; played = next_played (IsPieceOfLife engine) false pieces count piece first player its.0 false played.0 text below is played.1 its.1 }))
    k
