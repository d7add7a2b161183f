-- A table over the world that its key shows.
use Rattle.std.proofs.Common.{◌≡◌, ℕ, ◌+◌, ◌≤◌, sym, ap, subst, ◌∙◌, arith, List, length}
use Rattle.std.specs.Prelude.{replicate}
use Rattle.std.proofs.lemmas.List.{length-replicate}
use Rattle.std.specs.declared.snapshot.Snapshot.{Snapshot}
use Rattle.atomic_table.specs.Seated.{TableId}
use Rattle.fkv_base.specs.Limits.{drain_slots, max_sessions}
use Rattle.fkv_core.specs.Openings.{IsOpeningWorld, beginning}
use Rattle.fkv_core.specs.Worlds.{WorldModel, state_of, states_of}
use Rattle.fkv_opening.specs.declared.opened_store.Opened.{Opened}
use Rattle.fkv_session.specs.Sessions.{Sitter}
use Rattle.law_world.specs.Below.fkv_world.Opened.{IsOpenedWorld}
use Rattle.law_world.specs.Below.fkv_world.World.{Now}
use Rattle.fkv_seats.specs.Rule.{desk_slot}
use Rattle.fkv_table.specs.Desks.{Slot}
use Rattle.fkv_table.specs.Planes.{opening_of}
use Rattle.fkv_table.specs.Positions.{gaps, laid}
use Rattle.fkv_table.proofs.Laid.{laid_length}
use Rattle.fkv_table.proofs.Starts.{shown_count}

-- as many words as there are positions
pub laid_count : (words laid_words : List ℕ) → laid_words ≡ laid words → length laid_words ≡ length words + gaps
laid_count words laid_words is = ap length is ∙ laid_length words 0 (length words + gaps)

pub slots_count : (slots : List Slot) (count : ℕ) (x : Slot) → slots ≡ replicate count x → length slots ≡ count
slots_count slots count x is = ap length is ∙ length-replicate {A = Slot} count x

-- a store has few sessions
pub few_sitters : (o : Opened) (n : Now) (sitters : List Sitter) → IsOpeningWorld o n → states_of sitters ≡ n.sessions → length sitters ≤ max_sessions
few_sitters o n sitters its states =
    let many = shown_count state_of sitters n.sessions states in
    omega (arith, many, its.seats, o.shape.limits.few_sessions)

module _ {D : Type 0} (seen : D → List ℕ) (w : WorldModel D) (key : Snapshot (WorldModel D)) (shows : key.value ≡ w) where
  pub opened_at : (device : D) → w.device ≡ device → IsOpenedWorld (beginning w.now (seen device)) → IsOpenedWorld (opening_of seen key)
  opened_at device same opened =
      subst (λ (x : WorldModel D). IsOpenedWorld (beginning x.now (seen x.device))) (sym shows) (subst (λ (d : D). IsOpenedWorld (beginning w.now (seen d))) (sym same) opened)

  pub words_at : (table : TableId) (words laid_words : List ℕ) → words ≡ w.now.words → laid_words ≡ laid words → table.words ≡ length laid_words → table.words ≡ length (opening_of seen key).now.words + gaps
  words_at table words laid_words its is count =
      count ∙ (laid_count words laid_words is ∙ ap (λ (ws : List ℕ). length ws + gaps) (its ∙ ap (λ (x : WorldModel D). x.now.words) (sym shows)))

  pub slots_at : (table : TableId) (sitters : List Sitter) (slots : List Slot) (x : Slot) (count : ℕ) → states_of sitters ≡ w.now.sessions → slots ≡ replicate count x → count ≡ desk_slot drain_slots (length sitters + 1)
      → table.slots ≡ length slots → IsOpenedWorld (opening_of seen key) → table.slots ≡ desk_slot drain_slots ((opening_of seen key).now.places.sessions + 1)
  slots_at table sitters slots x count states is many counted opened =
      let first = slots_count slots count x is in
      let second : length sitters ≡ length (opening_of seen key).now.sessions = shown_count state_of sitters w.now.sessions states ∙ ap (λ (y : WorldModel D). length y.now.sessions) (sym shows) in
      omega (arith, first, second, many, counted, opened.seats)
