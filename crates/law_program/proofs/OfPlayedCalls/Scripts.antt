-- A script of operations alone prints what the plain map says.
use Rattle.std.proofs.Common.{◌≡◌, ◌∙◌, ◌⊎◌, ◌+◌, ◌-◌, ◌^◌, ◌<◌, ◌≤◌, ℕ, zero, suc, List, [], ◌∷◌, ◌++◌, Bool, false, ap, arith, inl, inr, length, refl, sym, subst, take}
use Rattle.std.specs.Prelude.{Option}
use Rattle.std.proofs.lemmas.List.{append-nil, take_all}
use Rattle.law_order.specs.Below.fkv_core.Openings.{IsOpeningSession, IsOpeningWorld}
use Rattle.law_order.specs.Below.fkv_core.Worlds.{WorldModel}
use Rattle.law_order.specs.Below.fkv_core.Event as events
use Rattle.law_order.specs.Below.fkv_core.TheTold as tells
use Rattle.fkv_map.specs.Map.{Map}
use Rattle.fkv_map.specs.declared.operations.Call.TheVariants as call
use Rattle.fkv_map.specs.declared.operations.Op.{Op}
use Rattle.law_order.specs.Below.fkv_opening.Opened.{IsStoreOf}
use Rattle.law_order.specs.Below.fkv_opening.TheOpened.{Opened}
use Rattle.law_order.specs.Below.law_opening.Log.Maps.{opening_map}
use Rattle.fkv_runs.specs.Below.fkv_playing.InTurn.{InTurn}
use Rattle.fkv_runs.specs.Below.fkv_playing.Players.{PlayerState}
use Rattle.fkv_runs.specs.Below.fkv_playing.Texts.{answer_told}
use Rattle.fkv_runs.specs.Below.fkv_playing.ActorCall.{ActorCall}
use Rattle.fkv_runs.specs.Below.fkv_playing.ActorCall.TheVariants.{Session}
use Rattle.fkv_runs.specs.Below.fkv_playing.Telling.TheVariants.{Whole}
use Rattle.fkv_runs.specs.Below.fkv_playing.Waits.{Waits}
use Rattle.fkv_runs.specs.Below.fkv_playing.Waits.TheVariants.{Nothing}
use Rattle.fkv_runs.specs.Files.{IsPieceOfLife}
use Rattle.fkv_runs.specs.Openings.{Medium}
use Rattle.fkv_runs.specs.Runs.{IsCrashedWhere, IsPiece, RunState, is_due}
use Rattle.fkv_runs.specs.declared.pieces.Piece.{Piece}
use Rattle.fkv_runs.specs.declared.pieces.Piece.TheVariants.{Group}
use Rattle.fkv_runs.specs.declared.settings.Settings.{Settings}
use Rattle.law_program.specs.WholeCalls.WholeCalls.{map_after}
use Rattle.law_order.specs.Below.fkv_world.Runs.{run}
use Rattle.law_order.specs.Below.fkv_world.World.{Calls, Event, Now}
use Rattle.law_order.specs.Below.law_refine.Results.Results.{NobodyCalls, in_call}
use Rattle.fkv_map.specs.Fits.{OpFits}
use Rattle.law_order.specs.Tickets.Few.{HasFewCalls, calls_in}
use Rattle.law_program.specs.PlayedCalls.PlayedCalls.{IsLineOfSession, IsQuietLife, IsRefusedSession, LinesReplyAsMap}
use Rattle.law_program.specs.PlayedCalls.Scripts.{EachFits, FilesPlayMap, IsLineOfMap, IsPlayOfMap, LivesPlayMap, NewStoresPlayMap, SessionOp}
use Rattle.law_program.proofs.OfPlayedCalls.Calm.{IsPlayedGroup, played_group, stays_calm}
use Rattle.law_program.proofs.OfPlayedCalls.NewStores.{PairsAreMap, new_is_empty}
use Rattle.law_program.proofs.OfPlayedCalls.Pieces.{AreOperations, IsOperation, operations}

-- ---- one line
calls_counted : (number moves : ℕ) (op : Op) (life : List Event) → calls_in (in_call number moves op life) ≡ suc (calls_in life)
calls_counted number zero op life = refl
calls_counted number (suc moves) op life = calls_counted number moves op life

-- Behind a line a life goes on, and nobody has a call in hand; and the line is the map's.
pub record GoesOnByMap {D : Type 0} (bytes : List ℕ) (o : Opened) (first : Now) (life : List Event) (number : ℕ) (op : Op) (after : PlayerState D) (text : List ℕ) : Type 0 where
  pub later : List Event
  pub quiet : IsQuietLife bytes o first later after.world.now
  pub nobody : NobodyCalls after.world.now
  pub few : calls_in later ≤ suc (calls_in life)
  pub line : IsLineOfMap (map_after o first bytes life) (map_after o first bytes later) number op text

goes_on_by_map : {D : Type 0} (bytes : List ℕ) (o : Opened) (first : Now) (life : List Event) (number : ℕ) (op : Op) (before after : PlayerState D) (text : List ℕ)
    → IsQuietLife bytes o first life before.world.now → NobodyCalls before.world.now → IsRefusedSession number before after text ⊎ IsLineOfSession number op bytes o first life before after text
    → GoesOnByMap bytes o first life number op after text
goes_on_by_map {D} bytes o first life number op before after text quiet nobody (inl refused) = record {
  later = life;
  quiet = subst (λ (x : PlayerState D). IsQuietLife bytes o first life x.world.now) (sym refused.0) quiet;
  nobody = subst (λ (x : PlayerState D). NobodyCalls x.world.now) (sym refused.0) nobody;
  few = omega arith;
  line = inl (refl, refused.1);
}
goes_on_by_map bytes o first life number op before after text quiet nobody (inr its) =
    let reply = its.reply in
    let count = calls_counted number reply.moves op life in
    record {
      later = in_call number reply.moves op life;
      quiet = reply.goes_on;
      nobody = reply.rests;
      few = omega (arith, count);
      line =
          inr (record {
            answer = reply.answer;
            its = reply.its;
            finished = reply.finished;
            is_told = reply.is_told;
            told_to = reply.told_to;
            waiting = its.seat.waiting;
            says = reply.says ∙ ap (answer_told Whole number (call.Op op) reply.answer) its.sits;
            reply = reply.by_map.reply;
            leaves = reply.by_map.leaves;
          });
    }

-- ---- the pieces of a script, over what is played in
module _ {D S : Type 0} (engine : events.Event → WorldModel D → WorldModel D → Option tells.Told → Bool → Type 0) (lines : LinesReplyAsMap engine) (player_of : S → PlayerState D) (Its : Piece → S → S → Bool → List ℕ → Type 0)
    (IsCalm : S → Type 0)
    (one_piece : (piece : Piece) (one : SessionOp) (before after : S) (over : Bool) (text : List ℕ) → IsOperation piece one → IsCalm before → Its piece before after over text
    → IsPlayedGroup engine (Session one.0 (call.Op one.1) ∷ []) (player_of before) (player_of after) over text × IsCalm after)
    (bytes : List ℕ) (o : Opened) (first : Now) where
  one_line : (piece : Piece) (one : SessionOp) (life : List Event) (before after : S) (over : Bool) (text : List ℕ) → IsOperation piece one → IsCalm before → OpFits one.1 → HasFewCalls (Calls one.0 (call.Op one.1) ∷ life)
      → IsQuietLife bytes o first life (player_of before).world.now → NobodyCalls (player_of before).world.now → Its piece before after over text
      → GoesOnByMap bytes o first life one.0 one.1 (player_of after) text
  one_line piece one life before after over text is calm fits few quiet nobody played =
      let group = (one_piece piece one before after over text is calm played).0 in
      goes_on_by_map bytes o first life one.0 one.1 (player_of before) (player_of after) text quiet nobody
      (lines bytes o first life one.0 one.1 group.queues group.left (player_of before) (player_of after) text quiet nobody fits few group.are_queues group.group)

  -- all of them
  pub record PlaysMap (life : List Event) (ops : List SessionOp) (after : S) (over : Bool) (text : List ℕ) : Type 0 where
    pub goes_on : over ≡ false
    pub calm : IsCalm after
    pub prints : IsPlayOfMap (map_after o first bytes life) ops text

  pub play : (pieces : List Piece) (ops : List SessionOp) (life : List Event) (before after : S) (over : Bool) (text : List ℕ) → AreOperations pieces ops → EachFits ops → calls_in life + length ops < 2 ^ 64 - 1
      → IsCalm before → IsQuietLife bytes o first life (player_of before).world.now → NobodyCalls (player_of before).world.now → InTurn Its false pieces before after over text → PlaysMap life ops after over text
  play [] [] life before after over text are fit few calm quiet nobody played = record { goes_on = played.1; calm = subst IsCalm (sym played.0) calm; prints = played.2 }
  play [] (one ∷ others) life before after over text are fit few calm quiet nobody played = absurd are
  play (piece ∷ later) [] life before after over text are fit few calm quiet nobody played = absurd are
  play (piece ∷ []) (one ∷ []) life before after over text are fit few calm quiet nobody played =
      let its = one_piece piece one before after over text are.0 calm played in
      let line = one_line piece one life before after over text are.0 calm fit.0 (omega (arith, few)) quiet nobody played in
      record { goes_on = its.0.goes_on; calm = its.1; prints = (map_after o first bytes line.later, text, [], line.line, refl, sym (append-nil text)) }
  play (piece ∷ []) (one ∷ other ∷ others) life before after over text are fit few calm quiet nobody played = absurd are.1
  play (piece ∷ next ∷ later) (one ∷ []) life before after over text are fit few calm quiet nobody played = absurd are.1
  play (piece ∷ next ∷ later) (one ∷ other ∷ others) life before after over text are fit few calm quiet nobody played =
      let between : S = played.0 in
      let its = one_piece piece one before between false played.1 are.0 calm played.3 in
      let line = one_line piece one life before between false played.1 are.0 calm fit.0 (omega (arith, few)) quiet nobody played.3 in
      let one_more = line.few in
      let rest = play (next ∷ later) (other ∷ others) line.later between after over played.2 are.1 fit.1 (omega (arith, few, one_more)) its.1 line.quiet line.nobody played.4 in
      record { goes_on = rest.goes_on; calm = rest.calm; prints = (map_after o first bytes line.later, played.1, played.2, line.line, rest.prints, played.5) }

-- ---- as a life begins
pub opening_quiet : (bytes : List ℕ) (o : Opened) (n : Now) → IsStoreOf bytes o → IsOpeningWorld o n → IsQuietLife bytes o n [] n
unfolding run
opening_quiet bytes o n store opening = record { store = store; opening = opening; fits = tt; few = omega arith; shows = refl }

pub opening_idle : (o : Opened) (n : Now) → IsOpeningWorld o n → NobodyCalls n
opening_idle o n opening number s found = let its : IsOpeningSession o number s = opening.its_sessions number s found in its.opened.none_in_hand

-- the store shows its own map then
pub opening_shows : (bytes : List ℕ) (o : Opened) (n : Now) → map_after o n bytes [] ≡ opening_map bytes o
unfolding run
opening_shows bytes o n = refl

-- ---- the first so many of them
pub record AreTaken (count : ℕ) (pieces : List Piece) (ops : List SessionOp) : Type 0 where
  pub are : AreOperations (take count pieces) (take count ops)
  pub fit : EachFits (take count ops)
  pub few : length (take count ops) ≤ length ops

taken : (count : ℕ) (pieces : List Piece) (ops : List SessionOp) → AreOperations pieces ops → EachFits ops → AreTaken count pieces ops
taken zero pieces ops are fit = record { are = tt; fit = tt; few = omega arith }
taken (suc count) [] [] are fit = record { are = tt; fit = tt; few = omega arith }
taken (suc count) (piece ∷ later) [] are fit = absurd are
taken (suc count) [] (one ∷ others) are fit = absurd are
taken (suc count) (piece ∷ later) (one ∷ others) are fit =
    let rest = taken count later others are.1 fit.1 in
    let few = rest.few in
    record { are = (are.0, rest.are); fit = (fit.0, rest.fit); few = omega (arith, few) }

-- ---- over the lives of a store in memory
memory_piece : {D : Type 0} (medium : Medium D) (settings : Settings) (piece : Piece) (one : SessionOp) (before after : RunState D) (over : Bool) (text : List ℕ) → IsOperation piece one → before.player.waits ≡ Nothing
    → IsPiece medium settings piece before after over text → IsPlayedGroup medium.engine (Session one.0 (call.Op one.1) ∷ []) before.player after.player over text × (after.player.waits ≡ Nothing)
memory_piece medium settings (Group calls) one before after over text is calm played = (
  subst (λ (x : List ActorCall). IsPlayedGroup medium.engine x before.player after.player over text) is (played_group medium settings calls.items before after over text calm played),
  stays_calm medium settings calls.items before after over text calm played,
)
memory_piece medium settings piece one before after over text is calm played = absurd is

not_due : {D : Type 0} (medium : Medium D) (settings : Settings) (last after : RunState D) (over : Bool) (text : List ℕ) → last.player.waits ≡ Nothing → IsCrashedWhere (is_due last.player.waits) medium settings last after over text → text ≡ []
not_due medium settings last after over text calm crashed =
    let none = subst (λ (x : Waits). IsCrashedWhere (is_due x) medium settings last after over text) calm crashed in
    none.2

same_length : (pieces : List Piece) (ops : List SessionOp) → AreOperations pieces ops → length pieces ≡ length ops
same_length [] [] are = refl
same_length (piece ∷ later) [] are = absurd are
same_length [] (one ∷ others) are = absurd are
same_length (piece ∷ later) (one ∷ others) are = ap suc (same_length later others are.1)

pub lives_play_map : {D : Type 0} (medium : Medium D) → LinesReplyAsMap medium.engine → LivesPlayMap medium
lives_play_map {D} medium lines image opened device history keeps_history agrees player settings pieces ops status text store begins so fit few its =
    subst (λ (x : Map). IsPlayOfMap x ops text) (opening_shows image opened player.world.now)
    (subst (λ (x : List ℕ). IsPlayOfMap (map_after opened player.world.now image []) ops x) (sym says)
    (subst (λ (x : List SessionOp). IsPlayOfMap (map_after opened player.world.now image []) x its.said) all_ops part.prints))
  where
    before : RunState D
    before = record { player = player; agrees = agrees }

    are : AreOperations pieces ops
    are = operations ops pieces so

    some : AreTaken its.count pieces ops
    some = taken its.count pieces ops are fit

    part : PlaysMap medium.engine lines (λ (x : RunState D). x.player) (IsPiece medium settings) (λ (x : RunState D). x.player.waits ≡ Nothing) (memory_piece medium settings) image opened player.world.now [] (take its.count ops) its.last its.refused its.said
    part =
        let fewer = some.few in
        play medium.engine lines (λ (x : RunState D). x.player) (IsPiece medium settings) (λ (x : RunState D). x.player.waits ≡ Nothing) (memory_piece medium settings) image opened player.world.now
        (take its.count pieces) (take its.count ops) [] before its.last its.refused its.said some.are some.fit (omega (arith, fewer, few)) (ap (λ (x : PlayerState D). x.waits) begins.same)
        (opening_quiet image opened player.world.now store begins.world) (opening_idle opened player.world.now begins.world) its.played

    all_ops : take its.count ops ≡ ops
    all_ops =
        let many = its.all part.goes_on in
        let same = same_length pieces ops are in
        take_all its.count ops (omega (arith, many, same))

    says : text ≡ its.said
    says = its.says ∙ (ap (λ (x : List ℕ). its.said ++ x) (not_due medium settings its.last its.after its.over its.reported part.calm (its.crashed part.goes_on)) ∙ append-nil its.said)

pub new_stores_play_map : {D : Type 0} (medium : Medium D) → PairsAreMap → LinesReplyAsMap medium.engine → NewStoresPlayMap medium
new_stores_play_map medium pairs lines shape image opened device history keeps_history agrees player settings pieces ops status text new store begins so fit few its =
    subst (λ (x : Map). IsPlayOfMap x ops text) (new_is_empty pairs shape image opened store new)
    (lives_play_map medium lines image opened device history keeps_history agrees player settings pieces ops status text store begins so fit few its)

-- ---- over the life of a store in a file
file_piece : {D : Type 0} (engine : events.Event → WorldModel D → WorldModel D → Option tells.Told → Bool → Type 0) (piece : Piece) (one : SessionOp) (before after : PlayerState D) (over : Bool) (text : List ℕ) → IsOperation piece one → Unit {0}
    → IsPieceOfLife engine piece before after over text → IsPlayedGroup engine (Session one.0 (call.Op one.1) ∷ []) before after over text × Unit {0}
file_piece engine (Group calls) one before after over text is calm played = (
  subst (λ (x : List ActorCall). IsPlayedGroup engine x before after over text) is
      (record { goes_on = played.0; queues = played.1.queues; are_queues = played.1.are_queues; left = played.1.left; group = played.1.played }),
  tt,
)
file_piece engine piece one before after over text is calm played = absurd is

pub files_play_map : {D : Type 0} (engine : events.Event → WorldModel D → WorldModel D → Option tells.Told → Bool → Type 0) → LinesReplyAsMap engine → FilesPlayMap engine
files_play_map {D} engine lines image opened device history keeps_history player pieces ops text store begins so fit few its =
    let all = play engine lines (λ (x : PlayerState D). x) (IsPieceOfLife engine) (λ (x : PlayerState D). Unit {0}) (file_piece engine) image opened player.world.now pieces ops [] player its.after false text (operations ops pieces so) fit (omega (arith, few)) tt
    (opening_quiet image opened player.world.now store begins.world) (opening_idle opened player.world.now begins.world) its.played in
    subst (λ (x : Map). IsPlayOfMap x ops text) (opening_shows image opened player.world.now) all.prints
