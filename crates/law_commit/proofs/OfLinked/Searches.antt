-- What leads a search to link: it did before, or it has just loaded an eighth word with no link.
use Rattle.std.proofs.Common.{◌≡◌, ◌⊎◌, inl, inr, ℕ, ◌+◌, ◌-◌, ◌∙◌, refl, sym, ap, subst, arith, Bool, true, false}
use Rattle.std.specs.Prelude.{if◌then◌else◌, ◌==◌, ◌&&◌, nat_le, nat_lt}
use Rattle.std.proofs.lemmas.Bool.Decides.{nat_tests}
use Rattle.fkv_plane.specs.declared.places.Places.{Places}
use Rattle.fkv_plane.specs.Places.{overflow_place}
use Rattle.fkv_index.specs.declared.finding.FindStep.{FindStep}
use Rattle.fkv_index.specs.declared.finding.FindStep.TheVariants.{AtRest, LoadsSlot, LoadsLink, LoadsTaken, TakesBucket, LinksBucket}
use Rattle.fkv_index.specs.declared.finding.Finding.{Finding}
use Rattle.fkv_index.specs.declared.finding.Linking.{Linking}
use Rattle.fkv_index.specs.declared.finding.Linking.TheVariants.{Never, Once, Made, Within}
use Rattle.fkv_index.specs.declared.finding.Purpose.{Purpose}
use Rattle.fkv_index.specs.declared.finding.Purpose.TheVariants.{Read, Update, UpdateWithin}
use Rattle.fkv_index.specs.declared.homes.Home.{Home}
use Rattle.fkv_index.specs.Finding.{ended_list, entered, find_led, find_next, first_finding, led_to, link_led, linked_led, slot_led, taken_led, took_led, is_kept, takes_led}
use Rattle.fkv_index.specs.Slots.{entry_tag, is_entry, link_of, slot_word}
use Rattle.law_refine.specs.Below.law_local.Tries.Replies.{HasNoLink}
use Rattle.law_refine.specs.Index.Finders.{Search, SessionWork, NoWork, Searches, KeepsSlot, PublishesEntry}
use Rattle.law_refine.proofs.OfIndex.Goes.{WorkGoes, SeeksOn, HasFound, Keeps, Drops, Seeks, Enters}
use Rattle.law_commit.specs.Linked.{IsLinkStep, IsLinking}

-- what a search is led to is of the same home, and where it links it did so or there was no link
record LedFrom (f : Finding) (step : FindStep) (reply : ℕ) (after : Finding) : Type 0 where
  same : after.home ≡ f.home
  linked_so : IsLinking after → IsLinking f ⊎ HasNoLink step reply

still : (f : Finding) (step : FindStep) (reply : ℕ) (after : Finding) → after.home ≡ f.home → (IsLinkStep after.step → ⊥) → after.linking ≡ f.linking → LedFrom f step reply after
still f step reply after same none linking = record { same = same; linked_so = λ links. elim links [ inl at ↦ absurd (none at) | inr made ↦ inl (inr (sym linking ∙ made)) ] }

ends : (f : Finding) (step : FindStep) (reply : ℕ) → LedFrom f step reply (record f { step = AtRest })
ends f step reply = still f step reply (record f { step = AtRest }) refl (λ at. at) refl

enters : (p : Places) (f : Finding) (step : FindStep) (reply number : ℕ) → LedFrom f step reply (led_to (entered p f number))
enters p f step reply number = by_test (nat_lt 0 f.links && nat_le number p.overflow) refl
  where
    by_test : (b : Bool) → (nat_lt 0 f.links && nat_le number p.overflow) ≡ b → LedFrom f step reply (led_to (entered p f number))
    by_test true e = rw e (still f step reply (record f { base = overflow_place p number 0; links = f.links - 1; step = LoadsSlot 0 }) refl (λ at. at) refl)
    by_test false e = rw e (ends f step reply)

-- behind the last slot comes the link
no_link_step : (b : Bool) (slot : ℕ) → IsLinkStep (if b then LoadsSlot (slot + 1) else LoadsLink) → ⊥
no_link_step true slot at = at
no_link_step false slot at = at

slots : (f : Finding) (slot reply : ℕ) → LedFrom f (LoadsSlot slot) reply (led_to (slot_led f slot reply (slot_word reply)))
unfolding slot_word
slots f slot reply = by_none (reply == 0) refl
  where
    by_tag : (b : Bool) → (reply == 0) ≡ false → is_entry reply ≡ true → (entry_tag reply == f.home.tag) ≡ b → LedFrom f (LoadsSlot slot) reply (led_to (slot_led f slot reply (slot_word reply)))
    by_tag true some entry e = rw (some, entry, e) (ends f (LoadsSlot slot) reply)
    by_tag false some entry e = rw (some, entry, e) (still f (LoadsSlot slot) reply (record f { step = if nat_lt (slot + 1) 7 then LoadsSlot (slot + 1) else LoadsLink }) refl (no_link_step (nat_lt (slot + 1) 7) slot) refl)

    by_entry : (b : Bool) → (reply == 0) ≡ false → is_entry reply ≡ b → LedFrom f (LoadsSlot slot) reply (led_to (slot_led f slot reply (slot_word reply)))
    by_entry true some e = by_tag (entry_tag reply == f.home.tag) some e refl
    by_entry false some e = rw (some, e) (ends f (LoadsSlot slot) reply)

    by_none : (b : Bool) → (reply == 0) ≡ b → LedFrom f (LoadsSlot slot) reply (led_to (slot_led f slot reply (slot_word reply)))
    by_none true e = rw e (ends f (LoadsSlot slot) reply)
    by_none false e = by_entry (is_entry reply) e refl

list_home : (f : Finding) (word : ℕ) (linking : Linking) → (led_to (ended_list f word linking)).home ≡ f.home
list_home f word Never = refl
list_home f word Once = refl
list_home f word (Within bound) = refl
list_home f word Made = refl

links : (p : Places) (f : Finding) (reply : ℕ) → LedFrom f LoadsLink reply (led_to (link_led p f reply))
links p f reply = by_test (link_of reply == 0) refl
  where
    by_test : (b : Bool) → (link_of reply == 0) ≡ b → LedFrom f LoadsLink reply (led_to (link_led p f reply))
    by_test true e = let none : link_of reply ≡ 0 = grind (arith, nat_tests, e) in rw e (record { same = list_home f reply f.linking; linked_so = λ so. inr (refl, none) })
    by_test false e = rw e (enters p f LoadsLink reply (link_of reply))

-- a search that links goes on from there
goes_on : (f : Finding) (step : FindStep) (reply : ℕ) (after : Finding) → f.step ≡ step → IsLinkStep step → after.home ≡ f.home → LedFrom f step reply after
goes_on f step reply after at links same = record { same = same; linked_so = λ so. inl (inl (subst IsLinkStep (sym at) links)) }

takes_home : (p : Places) (f : Finding) (word taken : ℕ) → (led_to (takes_led p f word taken)).home ≡ f.home
takes_home p f word taken = by_test (nat_lt taken p.overflow) refl
  where
    by_test : (b : Bool) → nat_lt taken p.overflow ≡ b → (led_to (takes_led p f word taken)).home ≡ f.home
    by_test true e = rw e refl
    by_test false e = rw e refl

taken_home : (p : Places) (f : Finding) (word taken : ℕ) → (led_to (taken_led p f word taken)).home ≡ f.home
taken_home p f word taken = by_kept (is_kept f.linking taken) refl
  where
    by_spare : (b : Bool) → (f.spare == 0) ≡ b → is_kept f.linking taken ≡ false → (led_to (taken_led p f word taken)).home ≡ f.home
    by_spare true e below = rw (below, e) (takes_home p f word taken)
    by_spare false e below = rw (below, e) refl

    by_kept : (b : Bool) → is_kept f.linking taken ≡ b → (led_to (taken_led p f word taken)).home ≡ f.home
    by_kept true e = rw e refl
    by_kept false e = by_spare (f.spare == 0) refl e

took_home : (f : Finding) (word taken reply : ℕ) → (led_to (took_led f word taken reply)).home ≡ f.home
took_home f word taken reply = by_test (reply == taken) refl
  where
    by_test : (b : Bool) → (reply == taken) ≡ b → (led_to (took_led f word taken reply)).home ≡ f.home
    by_test true e = rw e refl
    by_test false e = rw e refl

linked_home : (p : Places) (f : Finding) (word reply : ℕ) → (led_to (linked_led p f word reply)).home ≡ f.home
linked_home p f word reply = by_test (reply == word) refl
  where
    by_test : (b : Bool) → (reply == word) ≡ b → (led_to (linked_led p f word reply)).home ≡ f.home
    by_test true e = rw e (enters p (record f { linking = Made; spare = 0 }) AtRest 0 f.spare).same
    by_test false e = rw e refl

led_from : (p : Places) (f : Finding) (step : FindStep) (reply : ℕ) → f.step ≡ step → LedFrom f step reply (led_to (find_led p f step reply))
unfolding find_led
led_from p f AtRest reply at = ends f AtRest reply
led_from p f (LoadsSlot slot) reply at = slots f slot reply
led_from p f LoadsLink reply at = links p f reply
led_from p f (LoadsTaken word) reply at = goes_on f (LoadsTaken word) reply _ at tt (taken_home p f word reply)
led_from p f (TakesBucket word taken) reply at = goes_on f (TakesBucket word taken) reply _ at tt (took_home f word taken reply)
led_from p f (LinksBucket word) reply at = goes_on f (LinksBucket word) reply _ at tt (linked_home p f word reply)

-- none links as it begins
first_none : (p : Places) (home : Home) (purpose : Purpose) (spare : ℕ) → IsLinking (first_finding p home purpose spare) → ⊥
first_none p home Read spare (inl at) = at
first_none p home Update spare (inl at) = at
first_none p home (UpdateWithin bound) spare (inl at) = at
first_none p home Read spare (inr made) = cc
first_none p home Update spare (inr made) = cc
first_none p home (UpdateWithin bound) spare (inr made) = cc

-- ---- of a session
-- it was at a search of the same home, which linked or has loaded no link
pub record WorkFrom (reply : ℕ) (before : SessionWork) (home : Home) : Type 0 where
  pub its : Search
  pub was : before ≡ Searches its
  pub of_home : its.finding.home ≡ home
  pub so : IsLinking its.finding ⊎ HasNoLink its.finding.step reply

same_search : (one other : Search) → Searches one ≡ Searches other → one ≡ other
same_search one other both = cc

pub work_from : (p : Places) (reply : ℕ) (before after : SessionWork) (spare : ℕ) (its : Search) → WorkGoes p reply before after spare → after ≡ Searches its → IsLinking its.finding → WorkFrom reply before its.finding.home
work_from p reply before after spare its (SeeksOn it was more goes) is links =
    let same : find_next p it.finding reply ≡ its.finding = ap (λ (x : Search). x.finding) (same_search (record { finding = find_next p it.finding reply; purpose = it.purpose }) its (sym goes ∙ is)) in
    let led = led_from p it.finding it.finding.step reply refl in
    record { its = it; was = was; of_home = sym led.same ∙ ap (λ (f : Finding). f.home) same; so = led.linked_so (subst IsLinking (sym same) links) }
work_from p reply before after spare its (HasFound it answer slot was asks finds home keeps) is links = let never : KeepsSlot slot ≡ Searches its = sym keeps ∙ is in cc
work_from p reply before after spare its (Keeps slot was keeps) is links = let never : KeepsSlot slot ≡ Searches its = sym keeps ∙ is in cc
work_from p reply before after spare its (Drops done drops) is links = let never : NoWork ≡ Searches its = sym drops ∙ is in cc
work_from p reply before after spare its (Seeks home purpose done there seeks) is links =
    let same : first_finding p home purpose spare ≡ its.finding = ap (λ (x : Search). x.finding) (same_search (record { finding = first_finding p home purpose spare; purpose = purpose }) its (sym seeks ∙ is)) in
    absurd (first_none p home purpose spare (subst IsLinking (sym same) links))
work_from p reply before after spare its (Enters slot addr was may enters) is links = let never : PublishesEntry slot addr ≡ Searches its = sym enters ∙ is in cc
