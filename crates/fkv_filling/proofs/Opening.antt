-- Filled words are laid out as an index, and such an index is in order.
use Rattle.std.proofs.Common.{◌≡◌, ◌⊎◌, inl, inr, ℕ, zero, suc, ◌+◌, ◌-◌, ◌*◌, ◌^◌, ◌<◌, ◌≤◌, List, [], length, get_or, refl, sym, ap, subst, ◌∙◌, arith}
use Rattle.std.specs.Prelude.{◌%◌, replicate}
use Rattle.std.proofs.lemmas.List.{get_or_past}
use Rattle.fkv_plane.specs.declared.places.Places.{Places}
use Rattle.fkv_index.specs.Buckets as index
use Rattle.fkv_index.specs.Buckets.{overflow_bucket, IsMember, IsAmong}
use Rattle.fkv_index.specs.IndexWorld.{taken_of, rested_actor}
use Rattle.fkv_index.specs.OneEntry.{Owner, Nobody, SpareOf, ListedAt, AreOwned, IsSlotWord, IsFresh, IsIndex, spare_at}
use Rattle.fkv_entries.specs.Room.{needed, bucket_words, taken_below}
use Rattle.fkv_filling.specs.OpeningIndex.{numbers_from}
use Rattle.fkv_entries.specs.declared.home_entries.HomeEntry.{HomeEntry}
use Rattle.fkv_filling.proofs.Positions.{below_or_not, below_chain, below_start, below_step}
use Rattle.fkv_filling.proofs.Laid.{IsLaid, link_bucket, slot_at, leads_on, leads_nowhere, below_most, below_small, rest_of, linked_from, filled_from, among_from, one_from, member_in, member_of, numbers_once, holder, Holds, holder_holds, one_holds, owner_of, owner_there, owner_else, owner_zero}

no_spare : (n actor : ℕ) → spare_at (replicate n rested_actor) actor ≡ 0
no_spare zero actor = refl
no_spare (suc n) zero = refl
no_spare (suc n) (suc actor) = no_spare n actor

pub none_listed : (first : ℕ) → numbers_from first 0 ≡ []
unfolding numbers_from
none_listed first = refl

pub below_is : (chains : List (List ℕ)) (entries : List HomeEntry) → ((b : ℕ) → length (get_or chains b []) ≡ length (bucket_words b entries)) → (b : ℕ) → taken_below entries b ≡ below_chain chains b
unfolding taken_below
below_is chains entries same zero = sym (below_start chains)
below_is chains entries same (suc b) =
    let e = below_is chains entries same b in
    let f : needed (length (get_or chains b [])) ≡ needed (length (bucket_words b entries)) = ap needed (same b) in
    omega (arith, e, f, below_step chains b)

nobody_listed : (owner : Owner) → owner ≡ Nobody → (b : ℕ) → owner ≡ ListedAt b → ⊥
nobody_listed owner none b its = let e : Nobody ≡ ListedAt b = sym none ∙ its in cc

listed_somebody : (owner : Owner) (b : ℕ) → owner ≡ ListedAt b → owner ≡ Nobody → ⊥
listed_somebody owner b its none = let e : Nobody ≡ ListedAt b = sym none ∙ its in cc

one_bucket : (b c : ℕ) → ListedAt b ≡ ListedAt c → b ≡ c
one_bucket b c e = cc

no_session : (owner : Owner) (actor : ℕ) → (owner ≡ Nobody) ⊎ ((b : ℕ) × (owner ≡ ListedAt b)) → owner ≡ SpareOf actor → ⊥
no_session owner actor (inl none) its = let e : Nobody ≡ SpareOf actor = sym none ∙ its in cc
no_session owner actor (inr listed) its = let e : ListedAt listed.0 ≡ SpareOf actor = sym listed.1 ∙ its in cc

-- who has each overflow bucket
module _ {k v t : ℕ} {chain : ℕ → List ℕ} {below : ℕ → ℕ} {g : ℕ → ℕ → ℕ} (laid : IsLaid k v t chain below g) where
  pub owner_case : (n : ℕ) → (owner_of below k t n ≡ Nobody) ⊎ ((b : ℕ) × (owner_of below k t n ≡ ListedAt b))
  owner_case zero = inl (owner_zero below k t)
  owner_case (suc n) = elim (below_or_not n t) [ inl low ↦ inr (holder below k n, owner_there below k t n low) | inr high ↦ inl (owner_else below k t n high) ]

  pub holds : (n : ℕ) → n < t → Holds below k n (holder below k n)
  holds n low = holder_holds below k n laid.start (let e = laid.all in omega (arith, e, low))

  pub listed_at : (b n : ℕ) → b < k → below b + 1 ≤ n → n ≤ below (suc b) → owner_of below k t n ≡ ListedAt b
  listed_at b zero low from to = absurd (omega (arith, from))
  listed_at b (suc n) low from to =
      let most = below_most laid (suc b) k (omega (arith, low)) in
      let e = laid.all in
      let few : n < t = omega (arith, to, most, e) in
      owner_there below k t n few ∙ ap ListedAt (one_holds laid n (holder below k n) b (holds n few) (record { there = low; from = omega (arith, from); to = omega (arith, to) }))

  pub at_listed : (b n : ℕ) → owner_of below k t n ≡ ListedAt b → (b < k) × (below b + 1 ≤ n) × (n ≤ below (suc b))
  at_listed b zero its = absurd (nobody_listed (owner_of below k t zero) (owner_zero below k t) b its)
  at_listed b (suc n) its = elim (below_or_not n t) [
    | inl low ↦
        let h = subst (λ c. Holds below k n c) (one_bucket (holder below k n) b (sym (owner_there below k t n low) ∙ its)) (holds n low) in
        (h.there, (let e = h.from in let f : below b + 1 ≤ suc n = omega (arith, e) in f), (let e = h.to in let f : suc n ≤ below (suc b) = omega (arith, e) in f))
    | inr high ↦ absurd (nobody_listed (owner_of below k t (suc n)) (owner_else below k t n high) b its)
  ]

  pub taken_some : (n : ℕ) → 1 ≤ n → n ≤ t → owner_of below k t n ≡ Nobody → ⊥
  taken_some zero some few none = omega (arith, some)
  taken_some (suc n) some few none = listed_somebody (owner_of below k t (suc n)) (holder below k n) (owner_there below k t n (omega (arith, few))) none

  pub none_else : (n : ℕ) → (1 ≤ n → n ≤ t → ⊥) → owner_of below k t n ≡ Nobody
  none_else zero out = owner_zero below k t
  none_else (suc n) out = elim (below_or_not n t) [ inl low ↦ absurd (out (omega arith) (omega (arith, low))) | inr high ↦ owner_else below k t n high ]

  -- each overflow bucket is link j of a bucket, or nobody's
  pub found_at : (n : ℕ) → n < t → (b : ℕ) × (j : ℕ) × (b < k) × (j < needed (length (chain b))) × (n ≡ below b + j)
  found_at n low =
      let h = holds n low in
      let from = h.from in
      let to = h.to in
      let step = laid.step (holder below k n) in (
        holder below k n,
        n - below (holder below k n),
        h.there,
        (let e : n - below (holder below k n) < needed (length (chain (holder below k n))) = omega (arith, from, to, step) in e),
        (let e : n ≡ below (holder below k n) + (n - below (holder below k n)) = omega (arith, from) in e),
      )

  chain_word : (b n : ℕ) → b < k → IsSlotWord (get_or (chain b) n 0)
  chain_word b n low = elim (below_or_not n (length (chain b))) [
    | inl there ↦ let h = laid.entries b n low there in inr (h.address, h.its_tag)
    | inr past ↦ inl (get_or_past (chain b) n 0 past)
  ]

  pub slot_words : (m i : ℕ) → m < k + v → i < 7 → IsSlotWord (g m i)
  slot_words m i real low = elim (below_or_not m k) [
    | inl few ↦ subst IsSlotWord (sym (slot_at laid m 0 i few (omega arith) low)) (chain_word m (7 * 0 + i) few)
    | inr high ↦ elim (below_or_not (m - k) t) [
      | inl taken ↦
          let f = found_at (m - k) taken in
          let is : m ≡ link_bucket k below f.0 (suc f.1) = (let e = f.4 in omega (arith, e, high)) in
          subst IsSlotWord (sym (ap (λ o. g o i) is ∙ slot_at laid f.0 (suc f.1) i f.2 (let e = f.3 in omega (arith, e)) low)) (chain_word f.0 (7 * suc f.1 + i) f.2)
      | inr free ↦
          let is : m ≡ k + (m - k) = omega (arith, high) in
          inl (ap (λ o. g o i) is ∙ laid.nothing (m - k) i free (omega (arith, real, high)) (omega (arith, low)))
    ]
  ]

  pub small_links : (m : ℕ) → m < k + v → g m 7 < 2 ^ 48
  small_links m real = elim (below_or_not m k) [
    | inl few ↦ of_link m 0 few (omega arith)
    | inr high ↦ elim (below_or_not (m - k) t) [
      | inl taken ↦
          let f = found_at (m - k) taken in
          let is : m ≡ link_bucket k below f.0 (suc f.1) = (let e = f.4 in omega (arith, e, high)) in
          subst (λ o. g o 7 < 2 ^ 48) (sym is) (of_link f.0 (suc f.1) f.2 (let e = f.3 in omega (arith, e)))
      | inr free ↦
          let is : m ≡ k + (m - k) = omega (arith, high) in
          let e : g m 7 ≡ 0 = ap (λ o. g o 7) is ∙ laid.nothing (m - k) 7 free (omega (arith, real, high)) (omega arith) in
          omega (arith, e)
    ]
  ]
    where
      of_link : (b j : ℕ) → b < k → j ≤ needed (length (chain b)) → g (link_bucket k below b j) 7 < 2 ^ 48
      of_link b j low few = elim (below_or_not j (needed (length (chain b)))) [
        | inl on ↦ let e = leads_on laid b j low on in let f = below_small laid b j low few in let r = laid.room in let s = laid.small in omega (arith, e, f, r, s)
        | inr last ↦
            let is : j ≡ needed (length (chain b)) = omega (arith, few, last) in
            let e : g (link_bucket k below b j) 7 ≡ 0 = ap (λ n. g (link_bucket k below b n) 7) is ∙ leads_nowhere laid b low in
            omega (arith, e)
      ]

-- an index that is laid out so, by these lists
pub laid_in_order : (p : Places) (words : List ℕ) (lists : ℕ → List ℕ) (t : ℕ) (chain : ℕ → List ℕ) (below : ℕ → ℕ) (actors : ℕ) → IsLaid p.buckets p.overflow t chain below (index.bucket_words p words)
    → 24 + 16 * p.sessions + 8 * (p.buckets + p.overflow) ≤ length words → taken_of words ≡ t
    → ((b : ℕ) → lists b ≡ rest_of below b 0 (needed (length (chain b)))) → ((b : ℕ) → p.buckets ≤ b → lists b ≡ []) → IsIndex p words lists (spare_at (replicate actors rested_actor))
laid_in_order p words lists t chain below actors laid enough count are none =
    record {
      enough_words = enough;
      few_taken = (let r = laid.room in omega (arith, count, r));
      linked = λ b low. subst (λ ns. index.IsLinked p.buckets g b ns) (sym (are b)) (linked_from laid b 0 (needed (length (chain b))) low (omega arith));
      filled = λ b low. subst (λ ns. index.AreFilled p.buckets g b ns) (sym (are b)) (filled_from laid b 0 (needed (length (chain b))) low (omega arith));
      one_entry = λ b low. one_from laid b (lists b) low (λ m among.
          let h = among_from p.buckets below b 0 (needed (length (chain b))) m (subst (λ ns. IsAmong p.buckets b ns m) (are b) among) in
          record { j = h.j; few = (let e = h.few in omega (arith, e)); is = h.is });
      no_others = none;
      entries = λ m i real low. slot_words laid m i real low;
      owner = owner_of below p.buckets t;
      owned = subst (λ n. AreOwned n lists (spare_at (replicate actors rested_actor)) (owner_of below p.buckets t)) (sym count) owned;
      fresh = λ n some few unlisted. fresh n some few unlisted;
    }
  where
    g : ℕ → ℕ → ℕ
    g = index.bucket_words p words

    listed : (b n : ℕ) → IsMember n (lists b) → owner_of below p.buckets t n ≡ ListedAt b
    listed b n member = elim (below_or_not b p.buckets) [
      | inl low ↦
          let h = member_in (below b + 0 + 1) (needed (length (chain b))) n (subst (λ ns. IsMember n ns) (are b) member) in
          let step = laid.step b in
          listed_at laid b n low (let e = h.0 in omega (arith, e)) (let e = h.1 in omega (arith, e, step))
      | inr high ↦ absurd (subst (λ ns. IsMember n ns) (none b high) member)
    ]

    in_list : (b n : ℕ) → owner_of below p.buckets t n ≡ ListedAt b → IsMember n (lists b)
    in_list b n its =
        let h = at_listed laid b n its in
        let step = laid.step b in
        subst (λ ns. IsMember n ns) (sym (are b)) (member_of (below b + 0 + 1) (needed (length (chain b))) n (let e = h.1 in omega (arith, e)) (let e = h.2 in omega (arith, e, step)))

    owned : AreOwned t lists (spare_at (replicate actors rested_actor)) (owner_of below p.buckets t)
    owned = record {
      listed = listed;
      in_list = in_list;
      once = λ b. subst (λ ns. index.IsOnce ns) (sym (are b)) (numbers_once (below b + 0 + 1) (needed (length (chain b))));
      spared = λ actor some. let e = no_spare actors actor in absurd (omega (arith, e, some));
      is_spare = λ actor n its. absurd (no_session (owner_of below p.buckets t n) actor (owner_case laid n) its);
      taken_some = taken_some laid;
      none_else = none_else laid;
    }

    fresh : (n : ℕ) → 1 ≤ n → n ≤ p.overflow → ((b : ℕ) → owner_of below p.buckets t n ≡ ListedAt b → ⊥) → IsFresh (index.bucket_words p words) (overflow_bucket p.buckets n)
    fresh zero some few unlisted = absurd (omega (arith, some))
    fresh (suc n) some few unlisted = elim (below_or_not n t) [
      | inl low ↦ absurd (unlisted (holder below p.buckets n) (owner_there below p.buckets t n low))
      | inr high ↦
          let is : p.buckets + (suc n - 1) ≡ p.buckets + n = omega arith in
          record {
            no_entry = λ i low. ap (λ o. index.bucket_words p words o i) is ∙ laid.nothing n i high (omega (arith, few)) (omega (arith, low));
            no_link = ap (λ w. w % 2 ^ 48) (ap (λ o. index.bucket_words p words o 7) is ∙ laid.nothing n 7 high (omega (arith, few)) (omega arith));
          }
    ]
