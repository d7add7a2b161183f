-- What an event leaves standing for a record: all as it was, but for the word that a session's step writes.
use Rattle.std.proofs.Common.{◌≡◌, ◌≢◌, ◌⊎◌, ℕ, ◌+◌, ◌%◌, ◌<◌, ◌≤◌, ◌∙◌, inl, inr, refl, sym, ap, subst, arith, Bool, true, false, List, ◌∷◌, length}
use Rattle.std.specs.Prelude.{Option, Some, slice_get}
use Rattle.std.proofs.lemmas.Bool.{cases_lt}
use Rattle.fkv_epoch.proofs.Shown.{same_or, word_spared, word_written}
use Rattle.fkv_frames.proofs.Shown.{same_place}
use Rattle.fkv_plane.specs.declared.asks.Ask.{Ask}
use Rattle.fkv_plane.specs.declared.places.Places.{Places}
use Rattle.fkv_plane.specs.declared.places.RecordWord.{RecordWord}
use Rattle.fkv_plane.specs.declared.places.RecordWord.TheVariants as rec
use Rattle.fkv_plane.specs.Asked.{asked, asked_place, reply_to, word_at, word_found, words_after, words_changed}
use Rattle.fkv_plane.specs.Places.{frames_start, record_number, record_place, word_count}
use Rattle.law_world.specs.Below.fkv_flush.GuardLevels.{levels_of}
use Rattle.law_world.specs.Below.fkv_flush.GuardWorld.{GuardWorld}
use Rattle.law_world.specs.Below.fkv_session.Told.{Told}
use Rattle.law_world.specs.Below.fkv_session.Sessions.{SessionState, Seat, session_ask}
use Rattle.law_world.specs.GuardSessions.InPlace.{changed_in_place, SessionMayChange}
use Rattle.law_world.specs.Below.fkv_world.Runs.{World, happens, run}
use Rattle.law_world.specs.Below.fkv_world.World.{Event, Moves, Now, seat_at}
use Rattle.law_world.proofs.Below.fkv_world.Shown.{is_over, places_stay}
use Rattle.law_world.proofs.OfRuns.OneWord.{session_writes}
use Rattle.law_world.specs.Guarded.Shows.{IsOpened, ArePermitted, IsPermitted, SessionIsPermitted, seen_by_guard}
use Rattle.law_world.proofs.OfGuarded.Worlds.{life_shows}
use Rattle.law_world.proofs.OfGuarded.Flushed.{life_steady}
use Rattle.law_refine.specs.Events.GhostEvents.{safe_at}
use Rattle.law_refine.specs.Events.Reserved.{reserved_by, tail_at}
use Rattle.law_refine.proofs.OfRecords.AppendRows.{Standing}
use Rattle.law_refine.proofs.OfRecords.FrameOwners.{IsOwner, sitting_owner, owner_frame}
use Rattle.law_refine.proofs.OfRecords.FrameSteps.{FrameWriter, life_writer}
use Rattle.law_refine.proofs.OfRecords.FrameWords.{FrameWord, place_of, sitting_asks, sitting_word}
use Rattle.law_refine.proofs.OfRecords.SessionRows.{IsSo}
use Rattle.law_refine.proofs.OfRecords.Standing.{HasFrame, life_order, limit_near, stands_in, stood_here, stood_then}

-- each session's record stands as far as it has stored it
abbrev pub AreSo : Standing → Now → Type 0
AreSo stands n = (number : ℕ) (s : SessionState) → slice_get n.sessions number ≡ Some s → IsSo stands s

-- the word that a session's step writes, and what it makes of it
pub record IsWritten (n : Now) (event : Event) (stands after : Standing) (a : ℕ) (part : RecordWord) : Type 0 where
  pub writer : FrameWriter n event
  pub owner : IsOwner (changed_in_place writer.state) (reserved_by writer.number writer.state) writer.word
  pub addr : writer.word.addr ≡ a
  pub its_part : writer.word.word ≡ part
  pub found : reply_to n.words (session_ask (seat_at n writer.number) writer.state) ≡ stands a part
  pub written : after a part ≡ asked (session_ask (seat_at n writer.number) writer.state) (stands a part)

-- so of the word for which a session's step asks
pub record HasWritten (n : Now) (number : ℕ) (s : SessionState) (stands after : Standing) (f : FrameWord) : Type 0 where
  pub owner : IsOwner (changed_in_place s) (reserved_by number s) f
  pub frame : HasFrame n f.addr
  pub found : reply_to n.words (session_ask (seat_at n number) s) ≡ stands f.addr f.word
  pub written : after f.addr f.word ≡ asked (session_ask (seat_at n number) s) (stands f.addr f.word)

-- ---- open addresses have places of their own
small : (part : RecordWord) → record_number part < 3
small rec.Header = omega arith
small rec.Key = omega arith
small rec.Value = omega arith

number_part : (one other : RecordWord) → record_number one ≡ record_number other → one ≡ other
number_part rec.Header rec.Header e = refl
number_part rec.Header rec.Key e = absurd (omega (arith, e))
number_part rec.Header rec.Value e = absurd (omega (arith, e))
number_part rec.Key rec.Header e = absurd (omega (arith, e))
number_part rec.Key rec.Key e = refl
number_part rec.Key rec.Value e = absurd (omega (arith, e))
number_part rec.Value rec.Header e = absurd (omega (arith, e))
number_part rec.Value rec.Key e = absurd (omega (arith, e))
number_part rec.Value rec.Value e = refl

record AreNear (limit ring a : ℕ) : Type 0 where
  below : a < limit
  near : limit ≤ a + ring

frame_near : (opening : World) (start : ℕ) (events : List Event) (a : ℕ) → IsOpened opening.now start → HasFrame (run opening events).now a → AreNear (levels_of (run opening events).now.words).limit opening.now.places.ring a
frame_near opening start events a opened has =
    let o = life_order opening start events opened in
    let i = o.closed in
    let t = o.tail in
    let s = has.safe in
    let b = has.below in
    record { below = omega (arith, b, t); near = limit_near opening start events a opened (omega (arith, i, s)) }

same_addr : (p : Places) (limit a b : ℕ) (part other : RecordWord) → AreNear limit p.ring a → AreNear limit p.ring b → record_place p a part ≡ record_place p b other → a ≡ b
same_addr p limit a b part other one two e =
    let u = small part in
    let v = small other in
    let index : a % p.ring ≡ b % p.ring = omega (arith, e, u, v) in
    same_place p.ring limit a b one.below one.near two.below two.near index

same_part : (p : Places) (a b : ℕ) (part other : RecordWord) → a ≡ b → record_place p a part ≡ record_place p b other → part ≡ other
same_part p a b part other same e =
    let there : record_place p b part ≡ record_place p b other = ap (λ (x : ℕ). record_place p x part) (sym same) ∙ e in
    number_part part other (omega (arith, there))

-- ---- the words of a session's step
changed_there : (words : List ℕ) (at : Option ℕ) (f : ℕ → ℕ) (place q : ℕ) → at ≡ Some q → word_at (words_changed words at f) place ≢ word_at words place → place ≡ q
changed_there words at f place q e changes = elim (same_or place q) [
  | inl same ↦ same
  | inr other ↦ absurd (changes (ap (λ (x : Option ℕ). word_at (words_changed words x f) place) e ∙ word_spared words q (f (word_at words q)) place other))
]

written_there : (words : List ℕ) (at : Option ℕ) (f : ℕ → ℕ) (q : ℕ) → at ≡ Some q → q < length words → word_at (words_changed words at f) q ≡ f (word_at words q)
written_there words at f q e enough = ap (λ (x : Option ℕ). word_at (words_changed words x f) q) e ∙ word_written words q (f (word_at words q)) enough

frame_within : (opening : World) (start : ℕ) (events : List Event) (a : ℕ) (part : RecordWord) → IsOpened opening.now start → HasFrame (run opening events).now a → record_place opening.now.places a part < length (run opening events).now.words
frame_within opening start events a part opened has =
    let w : GuardWorld = seen_by_guard opening start events in
    let shows = life_shows opening start events opened in
    let places : w.now.places ≡ opening.now.places = shows.places ∙ places_stay opening events in
    let enough : word_count opening.now.places ≤ length (run opening events).now.words =
    subst (λ (words : List ℕ). word_count opening.now.places ≤ length words) shows.words (subst (λ (p : Places). word_count p ≤ length w.now.words) places shows.sound.enough_words) in
    let near = frame_near opening start events a opened has in
    let i = near.below in
    let j = near.near in
    let some : 0 < opening.now.places.ring = omega (arith, i, j) in
    let u = small part in
    let index : a % opening.now.places.ring < opening.now.places.ring = omega (arith, some) in
    omega (arith, enough, u, index)

high_place : (p : Places) (a : ℕ) (part : RecordWord) → frames_start p ≤ record_place p a part
high_place p a part = omega arith

-- ---- one event
module _ (opening : World) (start : ℕ) (before : List Event) (event : Event) (opened : IsOpened opening.now start) where
  abbrev P : Places
  P = opening.now.places

  abbrev N : Now
  N = (run opening before).now

  abbrev S : Standing
  S = stands_in opening start before

  abbrev T : Standing
  T = stands_in opening start (event ∷ before)

  may : (writer : FrameWriter N event) → IsPermitted N event → SessionMayChange N.words writer.state
  may writer permitted =
      let its : SessionIsPermitted N (slice_get N.sessions writer.number) = subst (λ (x : Event). IsPermitted N x) writer.moves permitted in
      subst (λ (found : Option SessionState). SessionIsPermitted N found) writer.found its

  -- the word for which a session's step asks is as the step makes it
  pub wrote : (number : ℕ) (s : SessionState) (f : FrameWord) → event ≡ Moves number → slice_get N.sessions number ≡ Some s → N.crashed ≡ false → SessionMayChange N.words s → IsSo S s → sitting_word s s.step ≡ Some f → HasWritten N number s S T f
  unfolding run
  wrote number s f moves found alive its_owes so e =
      let k : Seat = seat_at N number in
      let ask : Ask Told = session_ask k s in
      let owner : IsOwner (changed_in_place s) (reserved_by number s) f = sitting_owner S number s s.step f so.sits e in
      let frame : HasFrame N f.addr = owner_frame opening start before number s f opened found its_owes owner in
      let at : asked_place ask ≡ Some (place_of P f) = sitting_asks k s s.step f e ∙ ap (λ (p : Places). Some (place_of p f)) (places_stay opening before) in
      let words : (happens (run opening before) event).now.words ≡ words_after N.words ask =
      ap (λ (x : Event). (happens (run opening before) x).now.words) moves ∙ session_writes (run opening before) number s alive found in
      let stood : S f.addr f.word ≡ word_at N.words (place_of P f) = stood_here opening start before f.addr f.word opened frame in
      record {
        owner = owner;
        frame = frame;
        found = ap (word_found N.words) at ∙ sym stood;
        written =
            stood_then opening start before event f.addr f.word opened frame
            ∙ (ap (λ (ws : List ℕ). word_at ws (place_of P f)) words
            ∙ (written_there N.words (asked_place ask) (asked ask) (place_of P f) at (frame_within opening start before f.addr f.word opened frame)
            ∙ ap (asked ask) (sym stood)));
      }

  -- the word in the frame changes
  written : (a : ℕ) (part : RecordWord) → IsPermitted N event → AreSo S N → HasFrame N a → N.crashed ≡ false → word_at (happens (run opening before) event).now.words (record_place P a part) ≢ word_at N.words (record_place P a part)
      → IsWritten N event S T a part
  unfolding run
  written a part permitted so has alive changes =
      let high : frames_start N.places ≤ record_place P a part = subst (λ (p : Places). frames_start p ≤ record_place P a part) (sym (places_stay opening before)) (high_place P a part) in
      let writer : FrameWriter N event = life_writer opening start before event (record_place P a part) opened high changes in
      let s : SessionState = writer.state in
      let ask : Ask Told = session_ask (seat_at N writer.number) s in
      let f : FrameWord = writer.word in
      let its : HasWritten N writer.number s S T f = wrote writer.number s f writer.moves writer.found alive (may writer permitted) (so writer.number s writer.found) writer.its_word in
      let words : (happens (run opening before) event).now.words ≡ words_after N.words ask =
      ap (λ (x : Event). (happens (run opening before) x).now.words) writer.moves ∙ session_writes (run opening before) writer.number s alive writer.found in
      let moved : word_at (words_after N.words ask) (record_place P a part) ≢ word_at N.words (record_place P a part) =
      subst (λ (ws : List ℕ). word_at ws (record_place P a part) ≢ word_at N.words (record_place P a part)) words changes in
      let at : asked_place ask ≡ Some (place_of P f) = sitting_asks (seat_at N writer.number) s s.step f writer.its_word ∙ ap (λ (p : Places). Some (place_of p f)) (places_stay opening before) in
      let place : record_place P a part ≡ place_of P f = changed_there N.words (asked_place ask) (asked ask) (record_place P a part) (place_of P f) at moved in
      let addr : a ≡ f.addr = same_addr P (levels_of N.words).limit a f.addr part f.word (frame_near opening start before a opened has) (frame_near opening start before f.addr opened its.frame) place in
      let its_part : part ≡ f.word = same_part P a f.addr part f.word addr place in
      record {
        writer = writer;
        owner = its.owner;
        addr = sym addr;
        its_part = sym its_part;
        found = subst (λ (x : ℕ). reply_to N.words ask ≡ S x part) (sym addr) (subst (λ (y : RecordWord). reply_to N.words ask ≡ S f.addr y) (sym its_part) its.found);
        written = subst (λ (x : ℕ). T x part ≡ asked ask (S x part)) (sym addr) (subst (λ (y : RecordWord). T f.addr y ≡ asked ask (S f.addr y)) (sym its_part) its.written);
      }

  -- what is unchanged in its frame stands as it stood
  unchanged : (a : ℕ) (part : RecordWord) → HasFrame N a → word_at (happens (run opening before) event).now.words (record_place P a part) ≡ word_at N.words (record_place P a part) → T a part ≡ S a part
  unfolding run
  unchanged a part has same = stood_then opening start before event a part opened has ∙ (same ∙ sym (stood_here opening start before a part opened has))

  framed : (a : ℕ) (part : RecordWord) → IsPermitted N event → AreSo S N → HasFrame N a → (T a part ≡ S a part) ⊎ IsWritten N event S T a part
  framed a part permitted so has = elim (same_or (word_at (happens (run opening before) event).now.words (record_place P a part)) (word_at N.words (record_place P a part))) [
    | inl same ↦ inl (unchanged a part has same)
    | inr changes ↦ by_crash N.crashed refl changes
  ]
    where
      by_crash : (b : Bool) → N.crashed ≡ b → word_at (happens (run opening before) event).now.words (record_place P a part) ≢ word_at N.words (record_place P a part) → (T a part ≡ S a part) ⊎ IsWritten N event S T a part
      by_crash true e changes = absurd (changes (ap (λ (w : World). word_at w.now.words (record_place P a part)) (is_over (run opening before) event e)))
      by_crash false e changes = inr (written a part permitted so has e changes)

  -- below the tail
  pub stays_or : (a : ℕ) (part : RecordWord) → ArePermitted opening (event ∷ before) → AreSo S N → a < tail_at N → (T a part ≡ S a part) ⊎ IsWritten N event S T a part
  stays_or a part permitted so below = elim (cases_lt a (safe_at N)) [
    | inl low ↦ inl (life_steady opening start before event a part opened permitted low)
    | inr high ↦ framed a part permitted.0 so (record { safe = high; below = below })
  ]

  -- after a crash all does
  pub crashed_stays : (a : ℕ) (part : RecordWord) → ArePermitted opening (event ∷ before) → N.crashed ≡ true → a < tail_at N → T a part ≡ S a part
  crashed_stays a part permitted over below = elim (cases_lt a (safe_at N)) [
    | inl low ↦ life_steady opening start before event a part opened permitted low
    | inr high ↦ unchanged a part (record { safe = high; below = below }) (ap (λ (w : World). word_at w.now.words (record_place P a part)) (is_over (run opening before) event over))
  ]
