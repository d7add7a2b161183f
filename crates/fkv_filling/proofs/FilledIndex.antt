-- What is filled from entries of distinct homes is laid out as an index.
use Rattle.std.proofs.Common.{◌≡◌, inl, inr, ℕ, suc, ◌+◌, ◌-◌, ◌*◌, ◌<◌, ◌≤◌, List, [], length, get_or, refl, sym, ap, subst, ◌∙◌, arith}
use Rattle.std.specs.Prelude.{Contains, All}
use Rattle.std.proofs.lemmas.List.{get_or_past, get_or_default}
use Rattle.std.proofs.lemmas.List.Sorted.{length_permutation, All-permutation, Contains-permutation}
use Rattle.std.proofs.lemmas.List.Elements.{All-contains}
use Rattle.fkv_words.specs.Layout.{entry_word}
use Rattle.fkv_plane.specs.declared.places.Places.{Places}
use Rattle.fkv_plane.specs.Places.{bucket_place}
use Rattle.fkv_plane.specs.Asked.{word_at}
use Rattle.fkv_index.specs.Slots.{entry_tag}
use Rattle.fkv_index.specs.Buckets as index
use Rattle.fkv_index.specs.Entries.{entry_at, entry_in, order_of}
use Rattle.fkv_index.specs.declared.homes.Home.{Home}
use Rattle.fkv_entries.specs.Room.{needed, bucket_words, taken_below, AreHomes}
use Rattle.fkv_filling.specs.Filled.{IsFilled}
use Rattle.fkv_filling.specs.OpeningIndex.{HaveIndex, numbers_from, opening_lists, home, IsNoHome, IsOpeningIndex, FilledIsInOrder, FilledHasRoom}
use Rattle.fkv_entries.specs.declared.home_entries.HomeEntry.{HomeEntry}
use Rattle.fkv_filling.proofs.Positions.{below_or_not, below_chain, below_start, below_step, below_all, bucket_at, overflow_at, nothing_at, index_of}
use Rattle.fkv_filling.proofs.Laid.{IsEntry, IsLaid, below_grows, rest_of, there_if_some}
use Rattle.fkv_filling.proofs.EntriesFound.{words_from, order_is, entry_found, no_entry_found}
use Rattle.fkv_filling.proofs.Opening.{below_is, none_listed, small_links, laid_in_order}
use Rattle.fkv_filling.proofs.Tags.{word_of, tag_of, is_entry, tags_once, IsWordOf, words_are, words_have}

-- no entry is in a bucket that isn't there
none_outside : (buckets : ℕ) (entries : List HomeEntry) (b : ℕ) → AreHomes buckets entries → buckets ≤ b → length (bucket_words b entries) ≡ 0
none_outside buckets entries b homes high = elim (below_or_not 0 (length (bucket_words b entries))) [
  | inl some ↦
      let h = words_are b entries 0 0 some in
      let x : HomeEntry = h.x in
      let low = homes.there h.among.0 h.x (h.among.1) in
      let same : (let y = get_or entries h.among.0 h.x in y.bucket ≡ b) = ap (λ (y : HomeEntry). y.bucket) h.among.2 ∙ h.its_bucket in
      absurd (omega (arith, low, same, high))
  | inr none ↦ omega (arith, none)
]

module _ (buckets overflow : ℕ) (entries : List HomeEntry) (filled : List ℕ) (taken : ℕ) where
  chain_length : AreHomes buckets entries → (its : IsFilled buckets overflow entries filled taken) (b : ℕ) → length (get_or its.chains b []) ≡ length (bucket_words b entries)
  chain_length homes its b = elim (below_or_not b buckets) [
    | inl low ↦ length_permutation (bucket_words b entries) (get_or its.chains b []) (its.each b low).same
    | inr high ↦
        let many = its.many in
        ap length (get_or_past its.chains b [] (omega (arith, many, high))) ∙ sym (none_outside buckets entries b homes high)
  ]

  below_taken : (its : IsFilled buckets overflow entries filled taken) → below_chain its.chains buckets ≡ taken
  below_taken its = ap (below_chain its.chains) (sym its.many) ∙ below_all its.chains ∙ sym its.all_taken

  -- they take what the entries need
  taken_is : AreHomes buckets entries → IsFilled buckets overflow entries filled taken → taken ≡ taken_below entries buckets
  taken_is homes its = sym (below_taken its) ∙ sym (below_is its.chains entries (chain_length homes its) buckets)

pub filled_has_room : FilledHasRoom
filled_has_room buckets overflow entries filled taken room its = omega (arith, taken_is buckets overflow entries filled taken room.homes its, room.enough)

module _ (p : Places) (entries : List HomeEntry) (filled words : List ℕ) (taken : ℕ) (homes : AreHomes p.buckets entries) (its : IsFilled p.buckets p.overflow entries filled taken)
    (room : taken ≤ p.overflow) (have : HaveIndex p words filled taken) where
  abbrev chain : ℕ → List ℕ
  chain b = get_or its.chains b []

  abbrev below : ℕ → ℕ
  below b = below_chain its.chains b

  abbrev indexed : List ℕ
  indexed = index_of p.overflow its.chains

  same_length : (b : ℕ) → length (chain b) ≡ length (bucket_words b entries)
  same_length = chain_length p.buckets p.overflow entries filled taken homes its

  all_below : below p.buckets ≡ taken
  all_below = below_taken p.buckets p.overflow entries filled taken its

  at_place : (m i : ℕ) → m < p.buckets + p.overflow → i < 8 → index.bucket_words p words m i ≡ get_or filled (8 * m + i) 0
  at_place m i real low =
      let e : bucket_place p m i ≡ bucket_place p 0 (8 * m + i) = omega arith in
      ap (word_at words) e ∙ have.its_words (8 * m + i) (omega (arith, real, low))

  in_room : (b j : ℕ) → b < p.buckets → j < needed (length (chain b)) → below b + j < taken
  in_room b j low few =
      let grows = below_grows chain below (below_step its.chains) (suc b) (p.buckets - suc b) in
      let e : below (suc b + (p.buckets - suc b)) ≡ below p.buckets = ap below (let z : suc b + (p.buckets - suc b) ≡ p.buckets = omega (arith, low) in z) in
      let step = below_step its.chains b in
      let all = all_below in
      omega (arith, grows, e, step, few, all)

  pub laid : IsLaid p.buckets p.overflow taken chain below (index.bucket_words p words)
  laid =
      let many = its.many in
      record {
        start = below_start its.chains;
        step = below_step its.chains;
        all = all_below;
        room = room;
        small = p.few_overflow;
        bucket = λ b i low few. at_place b i (omega (arith, low)) few ∙ ap (λ ws. get_or ws (8 * b + i) 0) its.filled ∙ bucket_at p.overflow its.chains b i (omega (arith, low, many)) few;
        behind = λ b j i low few it.
            let fits = in_room b j low few in
            at_place (p.buckets + (below b + j)) i (omega (arith, fits, room)) it ∙ ap (λ ws. get_or ws (8 * (p.buckets + (below b + j)) + i) 0) its.filled
            ∙ ap (λ n. get_or indexed (8 * (n + (below b + j)) + i) 0) (sym its.many) ∙ overflow_at p.overflow its.chains b j i (omega (arith, fits, room)) few it;
        nothing = λ n i free few it.
            let all = its.all_taken in
            at_place (p.buckets + n) i (omega (arith, few)) it ∙ ap (λ ws. get_or ws (8 * (p.buckets + n) + i) 0) its.filled
            ∙ ap (λ m. get_or indexed (8 * (m + n) + i) 0) (sym its.many) ∙ nothing_at p.overflow its.chains n i (omega (arith, free, all)) few it;
        entries = λ b k low there. All-permutation IsEntry (bucket_words b entries) (chain b) (its.each b low).same (each_entry b) k 0 there;
        tags = λ b k l low few high same. tags_once b entries (chain b) homes.once (its.each b low).same k l few high same;
      }
    where
      each_entry : (b : ℕ) → All IsEntry (bucket_words b entries)
      each_entry b = λ k d low. let h = words_are b entries k d low in subst IsEntry (sym h.is) (is_entry h.x)

  lists_are : (b : ℕ) → opening_lists entries b ≡ rest_of below b 0 (needed (length (chain b)))
  lists_are b =
      let e : taken_below entries b + 1 ≡ below b + 0 + 1 = (let h = below_is its.chains entries same_length b in omega (arith, h)) in
      ap (λ n. numbers_from n (needed (length (bucket_words b entries)))) e ∙ ap (λ n. numbers_from (below b + 0 + 1) (needed n)) (sym (same_length b))

  none_behind : (b : ℕ) → p.buckets ≤ b → opening_lists entries b ≡ []
  none_behind b high = ap (λ n. numbers_from (taken_below entries b + 1) (needed n)) (none_outside p.buckets entries b homes high) ∙ none_listed (taken_below entries b + 1)

  order_at : (b tag : ℕ) → b < p.buckets → entry_in tag (order_of p.buckets (index.bucket_words p words) b (opening_lists entries b)) ≡ entry_in tag (words_from (chain b) (7 * 0) (7 * (needed (length (chain b)) + 1)))
  order_at b tag low =
      ap (λ ns. entry_in tag (order_of p.buckets (index.bucket_words p words) b ns)) (lists_are b) ∙ ap (entry_in tag) (order_is laid b 0 (needed (length (chain b))) low (omega arith))

  its_entry : (x : HomeEntry) → Contains entries x → entry_at p words (opening_lists entries) (home x) ≡ entry_word x.entry
  its_entry x among =
      let low : x.bucket < p.buckets = subst (λ (y : HomeEntry). y.bucket < p.buckets) among.2 (homes.there among.0 x among.1) in
      let at = Contains-permutation (bucket_words x.bucket entries) (chain x.bucket) (word_of x) (its.each x.bucket low).same (words_have x.bucket entries among.0 x among.1 among.2 refl) in
      let is : get_or (chain x.bucket) at.0 0 ≡ word_of x = get_or_default (chain x.bucket) at.0 0 (word_of x) at.1 ∙ at.2 in
      let has = laid.entries x.bucket at.0 low at.1 in
      let inside = at.1 in
      order_at x.bucket x.entry.tag low
      ∙ entry_found x.entry.tag (chain x.bucket) (7 * 0) (7 * (needed (length (chain x.bucket)) + 1)) at.0 (omega arith) (omega (arith, inside)) has.some (ap entry_tag is ∙ tag_of x)
      (λ m some same. laid.tags x.bucket m at.0 low (there_if_some (chain x.bucket) m some) at.1 (same ∙ sym (tag_of x) ∙ sym (ap entry_tag is)))
      ∙ is

  no_entry : (its_home : Home) → its_home.bucket < p.buckets → IsNoHome entries its_home → entry_at p words (opening_lists entries) its_home ≡ 0
  no_entry its_home low none =
      order_at its_home.bucket its_home.tag low
      ∙ no_entry_found its_home.tag (chain its_home.bucket) (7 * 0) (7 * (needed (length (chain its_home.bucket)) + 1)) (λ m some same.
      let h = All-permutation (IsWordOf its_home.bucket entries) (bucket_words its_home.bucket entries) (chain its_home.bucket) (its.each its_home.bucket low).same
      (words_are its_home.bucket entries) m 0 (there_if_some (chain its_home.bucket) m some) in
      All-contains (λ x. home x ≡ its_home → ⊥) entries h.x none h.among (homes_same h.x its_home h.its_bucket (sym (tag_of h.x) ∙ sym (ap entry_tag h.is) ∙ same)))
    where
      homes_same : (x : HomeEntry) (other : Home) → x.bucket ≡ other.bucket → x.entry.tag ≡ other.tag → home x ≡ other
      homes_same x other b t = ap (λ n. record { bucket = n; tag = x.entry.tag }) b ∙ ap (λ n. record { bucket = other.bucket; tag = n }) t

  pub opening : IsOpeningIndex p entries words
  opening = record {
    in_order = λ actors. laid_in_order p words (opening_lists entries) taken chain below actors laid have.enough have.count lists_are none_behind;
    has_entries = its_entry;
    no_others = no_entry;
    no_latches = λ m real. small_links laid m real;
  }

pub filled_in_order : FilledIsInOrder
filled_in_order p entries filled words taken room its have =
    opening p entries filled words taken room.homes its (filled_has_room p.buckets p.overflow entries filled taken room its) have
