-- A search keeps its home, and behind an ask that is no answer it is under way.
use Rattle.std.proofs.Common.{◌≡◌, ℕ, refl, Bool, true, false}
use Rattle.std.specs.Prelude.{◌==◌, ◌&&◌, ◌+◌, nat_lt, nat_le}
use Rattle.fkv_plane.specs.declared.asks.Ask.{Ask}
use Rattle.fkv_plane.specs.declared.asks.Ask.TheVariants.{Load, Store, Swap, Cas, Add, Max, Put, Take, Done}
use Rattle.fkv_plane.specs.declared.places.Places.{Places}
use Rattle.fkv_plane.specs.Passing.{is_done}
use Rattle.fkv_index.specs.declared.finding.FindAnswer.{FindAnswer}
use Rattle.fkv_index.specs.declared.finding.Finding.{Finding}
use Rattle.fkv_index.specs.declared.finding.FindStep.{FindStep}
use Rattle.fkv_index.specs.declared.finding.FindStep.TheVariants.{AtRest, LoadsSlot, LoadsLink, LoadsTaken, TakesBucket, LinksBucket}
use Rattle.fkv_index.specs.declared.finding.Found.{Found}
use Rattle.fkv_index.specs.declared.finding.Found.TheVariants.{Slot, NoSlot, Full, Kept, Contended}
use Rattle.fkv_index.specs.declared.finding.Linking.{Linking}
use Rattle.fkv_index.specs.declared.finding.Linking.TheVariants.{Never, Once, Made, Within}
use Rattle.fkv_index.specs.Finding.{find_step_ask, entered, slot_led, link_led, find_led, led_to, led_ask, find_next, find_next_ask, is_kept}
use Rattle.fkv_index.specs.IndexWorld.{Seeks, answer_work, found_work, is_publishing, is_seeking}
use Rattle.fkv_index.specs.Slots.{bucket_slots, slot_word, is_entry, entry_tag, link_of}

-- the home stays, and where the next ask is an answer the search is at rest
record IsLed (f next : Finding) (ask : Ask FindAnswer) : Type 0 where
  home : next.home ≡ f.home
  rests : is_done ask ≡ true → is_seeking next.step ≡ false

slot_is_led : (f : Finding) (slot word : ℕ) → IsLed f (led_to (slot_led f slot word (slot_word word))) (led_ask (slot_led f slot word (slot_word word)))
unfolding slot_word find_step_ask
slot_is_led f slot word = by_tests (word == 0) (is_entry word) (entry_tag word == f.home.tag) (nat_lt (slot + 1) bucket_slots) refl refl refl refl
  where
    by_tests : (a b c d : Bool) → (word == 0) ≡ a → is_entry word ≡ b → (entry_tag word == f.home.tag) ≡ c → nat_lt (slot + 1) bucket_slots ≡ d → IsLed f (led_to (slot_led f slot word (slot_word word))) (led_ask (slot_led f slot word (slot_word word)))
    by_tests true b c d empty entry same more = rw empty (record { home = refl; rests = λ done. refl })
    by_tests false true true d empty entry same more = rw (empty, entry, same) (record { home = refl; rests = λ done. refl })
    by_tests false true false true empty entry same more = rw (empty, entry, same, more) (record { home = refl; rests = λ done. cc })
    by_tests false true false false empty entry same more = rw (empty, entry, same, more) (record { home = refl; rests = λ done. cc })
    by_tests false false c d empty entry same more = rw (empty, entry) (record { home = refl; rests = λ done. refl })

enters_led : (p : Places) (f g : Finding) (number : ℕ) → g.home ≡ f.home → IsLed f (led_to (entered p g number)) (led_ask (entered p g number))
unfolding find_step_ask
enters_led p f g number home = by_test (nat_lt 0 g.links && nat_le number p.overflow) refl
  where
    by_test : (a : Bool) → (nat_lt 0 g.links && nat_le number p.overflow) ≡ a → IsLed f (led_to (entered p g number)) (led_ask (entered p g number))
    by_test true there = rw there (record { home = home; rests = λ done. cc })
    by_test false none = rw none (record { home = home; rests = λ done. refl })

link_is_led : (p : Places) (f : Finding) (word : ℕ) → IsLed f (led_to (link_led p f word)) (led_ask (link_led p f word))
unfolding find_step_ask
link_is_led p f word = by_tests (link_of word == 0) f.linking (f.spare == 0) refl refl refl
  where
    by_tests : (a : Bool) (linking : Linking) (b : Bool) → (link_of word == 0) ≡ a → f.linking ≡ linking → (f.spare == 0) ≡ b → IsLed f (led_to (link_led p f word)) (led_ask (link_led p f word))
    by_tests true Never b last same spare = rw (last, same) (record { home = refl; rests = λ done. refl })
    by_tests true Once true last same spare = rw (last, same, spare) (record { home = refl; rests = λ done. cc })
    by_tests true Once false last same spare = rw (last, same, spare) (record { home = refl; rests = λ done. cc })
    by_tests true (Within bound) b last same spare = rw (last, same) (record { home = refl; rests = λ done. cc })
    by_tests true Made b last same spare = rw (last, same) (record { home = refl; rests = λ done. refl })
    by_tests false linking b last same spare = rw last (enters_led p f f (link_of word) refl)

is_led : (p : Places) (f : Finding) (step : FindStep) (reply : ℕ) → IsLed f (led_to (find_led p f step reply)) (led_ask (find_led p f step reply))
unfolding find_led find_step_ask
is_led p f AtRest reply = record { home = refl; rests = λ done. refl }
is_led p f (LoadsSlot slot) reply = slot_is_led f slot reply
is_led p f LoadsLink reply = link_is_led p f reply
is_led p f (LoadsTaken word) reply = by_kept (is_kept f.linking reply) refl
  where
    Led : Type 0
    Led = IsLed f (led_to (find_led p f (LoadsTaken word) reply)) (led_ask (find_led p f (LoadsTaken word) reply))

    by_test : (a : Bool) → nat_lt reply p.overflow ≡ a → is_kept f.linking reply ≡ false → (f.spare == 0) ≡ true → Led
    by_test true some below none = rw (below, none, some) (record { home = refl; rests = λ done. cc })
    by_test false all below none = rw (below, none, all) (record { home = refl; rests = λ done. refl })

    by_spare : (a : Bool) → (f.spare == 0) ≡ a → is_kept f.linking reply ≡ false → Led
    by_spare true none below = by_test (nat_lt reply p.overflow) refl below none
    by_spare false some below = rw (below, some) (record { home = refl; rests = λ done. cc })

    by_kept : (a : Bool) → is_kept f.linking reply ≡ a → Led
    by_kept true kept = rw kept (record { home = refl; rests = λ done. refl })
    by_kept false below = by_spare (f.spare == 0) refl below
is_led p f (TakesBucket word taken) reply = by_test (reply == taken) refl
  where
    by_test : (a : Bool) → (reply == taken) ≡ a → IsLed f (led_to (find_led p f (TakesBucket word taken) reply)) (led_ask (find_led p f (TakesBucket word taken) reply))
    by_test true won = rw won (record { home = refl; rests = λ done. cc })
    by_test false lost = rw lost (record { home = refl; rests = λ done. refl })
is_led p f (LinksBucket word) reply = by_test (reply == word) refl
  where
    by_test : (a : Bool) → (reply == word) ≡ a → IsLed f (led_to (find_led p f (LinksBucket word) reply)) (led_ask (find_led p f (LinksBucket word) reply))
    by_test true won = rw won (enters_led p f (record f { linking = Made; spare = 0 }) f.spare refl)
    by_test false lost = rw lost (record { home = refl; rests = λ done. refl })

pub next_home : (p : Places) (f : Finding) (reply : ℕ) → (find_next p f reply).home ≡ f.home
next_home p f reply = (is_led p f f.step reply).home

-- at its end it seeks no more
pub done_rests : (p : Places) (f : Finding) (reply : ℕ) → is_done (find_next_ask p f reply) ≡ true → is_seeking (find_next p f reply).step ≡ false
done_rests p f reply done = (is_led p f f.step reply).rests done

found_none : (its : Found) → is_publishing (found_work its) ≡ false
found_none (Slot place word) = refl
found_none NoSlot = refl
found_none Full = refl
found_none Kept = refl
found_none Contended = refl

pub none_published : (ask : Ask FindAnswer) → is_publishing (answer_work ask) ≡ false
none_published (Done answer) = found_none answer.found
none_published (Load place) = refl
none_published (Store place word) = refl
none_published (Swap place word) = refl
none_published (Cas place old new) = refl
none_published (Add place k) = refl
none_published (Max place k) = refl
none_published (Put slot action) = refl
none_published (Take slot) = refl

-- and before its end it goes on as one
pub more_seeks : (ask : Ask FindAnswer) → is_done ask ≡ false → answer_work ask ≡ Seeks
more_seeks (Done answer) more = cc
more_seeks (Load place) more = refl
more_seeks (Store place word) more = refl
more_seeks (Swap place word) more = refl
more_seeks (Cas place old new) more = refl
more_seeks (Add place k) more = refl
more_seeks (Max place k) more = refl
more_seeks (Put slot action) more = refl
more_seeks (Take slot) more = refl
