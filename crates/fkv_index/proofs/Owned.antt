-- Who has each overflow bucket, as buckets are taken and linked.
use Rattle.std.proofs.Common.{◌≡◌, ℕ, ◌+◌, ◌≤◌, List, [], ◌∷◌, ◌++◌, refl, inl, inr, arith, sym, ap, ◌∙◌, subst, true, false}
use Rattle.std.specs.Prelude.{nat_le, ◌==◌, if◌then◌else◌}
use Rattle.std.proofs.lemmas.Bool.Decides.{nat_tests}
use Rattle.fkv_index.specs.Buckets.{IsMember, IsOnce}
use Rattle.fkv_index.specs.IndexWorld.{with_link}
use Rattle.fkv_index.specs.OneEntry.{Owner, Nobody, SpareOf, ListedAt, AreOwned}
use Rattle.fkv_index.proofs.Orders.{truth, same_or_not, member_more, member_kept, member_last, once_more}

-- one number has another owner
pub owner_set : (ℕ → Owner) → ℕ → Owner → ℕ → Owner
owner_set owner n its o = if o == n then its else owner o

pub owner_there : (owner : ℕ → Owner) (n : ℕ) (its : Owner) → owner_set owner n its n ≡ its
unfolding owner_set
owner_there owner n its = let e : (n == n) ≡ true = grind (arith, nat_tests) in rw e refl

pub owner_else : (owner : ℕ → Owner) (n : ℕ) (its : Owner) (o : ℕ) → (o ≡ n → ⊥) → owner_set owner n its o ≡ owner o
unfolding owner_set
owner_else owner n its o apart = let e : (o == n) ≡ false = grind (arith, nat_tests, apart) in rw e refl

pub link_there : (lists : ℕ → List ℕ) (bucket n : ℕ) → with_link lists bucket n bucket ≡ lists bucket ++ n ∷ []
link_there lists bucket n = let e : (bucket == bucket) ≡ true = grind (arith, nat_tests) in rw e refl

pub link_else : (lists : ℕ → List ℕ) (bucket n o : ℕ) → (o ≡ bucket → ⊥) → with_link lists bucket n o ≡ lists o
link_else lists bucket n o apart = let e : (o == bucket) ≡ false = grind (arith, nat_tests, apart) in rw e refl

-- the spare of one actor changes
pub record SpareBecomes (spares after : ℕ → ℕ) (actor number : ℕ) : Type 0 where
  pub its_spare : after actor ≡ number
  pub others : (o : ℕ) → (o ≡ actor → ⊥) → after o ≡ spares o

-- a bucket that somebody has is taken
pub owned_taken : {taken : ℕ} {lists : ℕ → List ℕ} {spares : ℕ → ℕ} {owner : ℕ → Owner} (n : ℕ) → AreOwned taken lists spares owner → (owner n ≡ Nobody → ⊥) → (1 ≤ n) × (n ≤ taken)
owned_taken {taken} n owned some = elim (truth (nat_le 1 n)) [
  | inl a ↦ elim (truth (nat_le n taken)) [
    | inl b ↦ (grind (arith, nat_tests, a), grind (arith, nat_tests, b))
    | inr b ↦ absurd (some (owned.none_else n (λ low high. absurd (grind (arith, nat_tests, b, high)))))
  ]
  | inr a ↦ absurd (some (owned.none_else n (λ low high. absurd (grind (arith, nat_tests, a, low)))))
]

never_listed : (bucket : ℕ) → ListedAt bucket ≡ Nobody → ⊥
never_listed bucket e = cc

never_spare : (actor : ℕ) → SpareOf actor ≡ Nobody → ⊥
never_spare actor e = cc

spare_or_listed : (actor bucket : ℕ) → SpareOf actor ≡ ListedAt bucket → ⊥
spare_or_listed actor bucket e = cc

pub listed_taken : {taken : ℕ} {lists : ℕ → List ℕ} {spares : ℕ → ℕ} {owner : ℕ → Owner} (bucket n : ℕ) → AreOwned taken lists spares owner → IsMember n (lists bucket) → (1 ≤ n) × (n ≤ taken)
listed_taken bucket n owned member = owned_taken n owned (λ e. never_listed bucket (sym (owned.listed bucket n member) ∙ e))

pub spare_taken : {taken : ℕ} {lists : ℕ → List ℕ} {spares : ℕ → ℕ} {owner : ℕ → Owner} (actor : ℕ) → AreOwned taken lists spares owner → 1 ≤ spares actor → spares actor ≤ taken
spare_taken {taken} {lists} {spares} actor owned some = (owned_taken (spares actor) owned (λ e. never_spare actor (sym (owned.spared actor some) ∙ e))).1

-- nothing but who has a spare may matter
pub owned_same : (taken : ℕ) (lists : ℕ → List ℕ) (spares after : ℕ → ℕ) (owner : ℕ → Owner) → ((o : ℕ) → after o ≡ spares o) → AreOwned taken lists spares owner → AreOwned taken lists after owner
owned_same taken lists spares after owner same owned = record {
  listed = owned.listed;
  in_list = owned.in_list;
  once = owned.once;
  spared = λ actor some. subst (λ x. owner x ≡ SpareOf actor) (sym (same actor)) (owned.spared actor (subst (λ x. 1 ≤ x) (same actor) some));
  is_spare = λ actor number its. same actor ∙ owned.is_spare actor number its;
  taken_some = owned.taken_some;
  none_else = owned.none_else;
}

-- the next bucket is taken by an actor that has none to spare
pub owned_took : (taken : ℕ) (lists : ℕ → List ℕ) (spares after : ℕ → ℕ) (owner : ℕ → Owner) (actor : ℕ) → spares actor ≡ 0 → SpareBecomes spares after actor (taken + 1)
    → AreOwned taken lists spares owner → AreOwned (taken + 1) lists after (owner_set owner (taken + 1) (SpareOf actor))
owned_took taken lists spares after owner actor none becomes owned = record {
  listed = λ bucket number member. old number (λ e. no_member bucket number e member) ∙ owned.listed bucket number member;
  in_list = λ bucket number its. elim (same_or_not number (taken + 1)) [
    | inl e ↦ absurd (spare_or_listed actor bucket (sym (new number e) ∙ its))
    | inr e ↦ owned.in_list bucket number (sym (old number e) ∙ its)
  ];
  once = owned.once;
  spared = λ o some. elim (same_or_not o actor) [
    | inl e ↦ let at_it : after o ≡ taken + 1 = subst (λ x. after x ≡ taken + 1) (sym e) becomes.its_spare in subst (λ x. owner_set owner (taken + 1) (SpareOf actor) (after o) ≡ SpareOf x) (sym e) (new (after o) at_it)
    | inr e ↦
        let same = becomes.others o e in
        let some_old : 1 ≤ spares o = subst (λ x. 1 ≤ x) same some in
        let its = owned.spared o some_old in
        let low = spare_taken o owned some_old in
        subst (λ x. owner_set owner (taken + 1) (SpareOf actor) x ≡ SpareOf o) (sym same) (old (spares o) (λ h. omega (arith, h, low)) ∙ its)
  ];
  is_spare = λ o number its. elim (same_or_not number (taken + 1)) [
    | inl e ↦
        let by : o ≡ actor = same_actor o actor (sym its ∙ new number e) in
        subst (λ x. after x ≡ number) (sym by) (becomes.its_spare ∙ sym e)
    | inr e ↦
        let before = sym (old number e) ∙ its in
        let was = owned.is_spare o number before in
        let some = (owned_taken number owned (λ h. never_spare o (sym before ∙ h))).0 in
        becomes.others o (λ h. let zero_there : spares o ≡ 0 = subst (λ x. spares x ≡ 0) (sym h) none in omega (arith, zero_there, was, some)) ∙ was
  ];
  taken_some = λ number low high its. elim (same_or_not number (taken + 1)) [
    | inl e ↦ never_spare actor (sym (new number e) ∙ its)
    | inr e ↦ owned.taken_some number low (omega (arith, high, e)) (sym (old number e) ∙ its)
  ];
  none_else = λ number out. old number (λ e. out (omega (arith, e)) (omega (arith, e))) ∙ owned.none_else number (λ low high. out low (omega (arith, high)));
}
  where
    new : (number : ℕ) → number ≡ taken + 1 → owner_set owner (taken + 1) (SpareOf actor) number ≡ SpareOf actor
    new number e = subst (λ x. owner_set owner (taken + 1) (SpareOf actor) x ≡ SpareOf actor) (sym e) (owner_there owner (taken + 1) (SpareOf actor))

    old : (number : ℕ) → (number ≡ taken + 1 → ⊥) → owner_set owner (taken + 1) (SpareOf actor) number ≡ owner number
    old number apart = owner_else owner (taken + 1) (SpareOf actor) number apart

    no_member : (bucket number : ℕ) → number ≡ taken + 1 → IsMember number (lists bucket) → ⊥
    no_member bucket number e member = let high = (listed_taken bucket number owned member).1 in omega (arith, e, high)

    same_actor : (x y : ℕ) → SpareOf x ≡ SpareOf y → x ≡ y
    same_actor x y e = cc

-- an actor's spare is linked to a bucket
pub owned_linked : (taken : ℕ) (lists : ℕ → List ℕ) (spares after : ℕ → ℕ) (owner : ℕ → Owner) (actor bucket number : ℕ) → spares actor ≡ number → 1 ≤ number → SpareBecomes spares after actor 0
    → AreOwned taken lists spares owner → AreOwned taken (with_link lists bucket number) after (owner_set owner number (ListedAt bucket))
owned_linked taken lists spares after owner actor bucket number its_number some becomes owned = record {
  listed = λ c n member. elim (same_or_not c bucket) [
    | inl e ↦ elim (member_more (lists bucket) number n (subst (IsMember n) (link_there lists bucket number) (subst (λ x. IsMember n (with_link lists bucket number x)) e member))) [
      | inl before ↦ old n (λ h. unlisted bucket (subst (λ x. IsMember x (lists bucket)) h before)) ∙ subst (λ x. owner n ≡ ListedAt x) (sym e) (owned.listed bucket n before)
      | inr last ↦ subst (λ x. owner_set owner number (ListedAt bucket) n ≡ ListedAt x) (sym e) (new n last)
    ]
    | inr e ↦
        let before : IsMember n (lists c) = subst (IsMember n) (link_else lists bucket number c e) member in
        old n (λ h. unlisted c (subst (λ x. IsMember x (lists c)) h before)) ∙ owned.listed c n before
  ];
  in_list = λ c n its. elim (same_or_not n number) [
    | inl e ↦
        let by : c ≡ bucket = same_bucket c bucket (sym its ∙ new n e) in
        subst (λ x. IsMember n (with_link lists bucket number x)) (sym by) (subst (IsMember n) (sym (link_there lists bucket number)) (subst (λ x. IsMember x (lists bucket ++ number ∷ [])) (sym e) (member_last (lists bucket) number)))
    | inr e ↦ kept c n (owned.in_list c n (sym (old n e) ∙ its))
  ];
  once = λ c. elim (same_or_not c bucket) [
    | inl e ↦ subst (λ x. IsOnce (with_link lists bucket number x)) (sym e) (subst IsOnce (sym (link_there lists bucket number)) (once_more (lists bucket) number (unlisted bucket) (owned.once bucket)))
    | inr e ↦ subst IsOnce (sym (link_else lists bucket number c e)) (owned.once c)
  ];
  spared = λ o has. elim (same_or_not o actor) [
    | inl e ↦ let none : after o ≡ 0 = subst (λ x. after x ≡ 0) (sym e) becomes.its_spare in absurd (omega (arith, none, has))
    | inr e ↦
        let same = becomes.others o e in
        let its = owned.spared o (subst (λ x. 1 ≤ x) same has) in
        subst (λ x. owner_set owner number (ListedAt bucket) x ≡ SpareOf o) (sym same) (old (spares o) (λ h. e (same_actor o actor (sym its ∙ ap owner h ∙ spare_owner))) ∙ its)
  ];
  is_spare = λ o n its. elim (same_or_not n number) [
    | inl e ↦ absurd (spare_or_listed o bucket (sym its ∙ new n e))
    | inr e ↦
        let was = owned.is_spare o n (sym (old n e) ∙ its) in
        becomes.others o (λ h. e (sym was ∙ subst (λ x. spares x ≡ number) (sym h) its_number)) ∙ was
  ];
  taken_some = λ n low high its. elim (same_or_not n number) [
    | inl e ↦ never_listed bucket (sym (new n e) ∙ its)
    | inr e ↦ owned.taken_some n low high (sym (old n e) ∙ its)
  ];
  none_else = λ n out. old n (λ e. let high = (owned_taken number owned (λ h. never_spare actor (sym spare_owner ∙ h))).1 in out (omega (arith, e, some)) (omega (arith, e, high))) ∙ owned.none_else n out;
}
  where
    spare_owner : owner number ≡ SpareOf actor
    spare_owner = subst (λ x. owner x ≡ SpareOf actor) its_number (owned.spared actor (subst (λ x. 1 ≤ x) (sym its_number) some))

    new : (n : ℕ) → n ≡ number → owner_set owner number (ListedAt bucket) n ≡ ListedAt bucket
    new n e = subst (λ x. owner_set owner number (ListedAt bucket) x ≡ ListedAt bucket) (sym e) (owner_there owner number (ListedAt bucket))

    old : (n : ℕ) → (n ≡ number → ⊥) → owner_set owner number (ListedAt bucket) n ≡ owner n
    old n apart = owner_else owner number (ListedAt bucket) n apart

    unlisted : (c : ℕ) → IsMember number (lists c) → ⊥
    unlisted c member = spare_or_listed actor c (sym spare_owner ∙ owned.listed c number member)

    kept : (c n : ℕ) → IsMember n (lists c) → IsMember n (with_link lists bucket number c)
    kept c n member = elim (same_or_not c bucket) [
      | inl e ↦ subst (λ x. IsMember n (with_link lists bucket number x)) (sym e) (subst (IsMember n) (sym (link_there lists bucket number)) (member_kept (lists bucket) number n (subst (λ x. IsMember n (lists x)) e member)))
      | inr e ↦ subst (IsMember n) (sym (link_else lists bucket number c e)) member
    ]

    same_actor : (x y : ℕ) → SpareOf x ≡ SpareOf y → x ≡ y
    same_actor x y e = cc

    same_bucket : (x y : ℕ) → ListedAt x ≡ ListedAt y → x ≡ y
    same_bucket x y e = cc

-- the spares where an actor has none
pub spares_less : (ℕ → ℕ) → ℕ → ℕ → ℕ
spares_less spares actor o = if o == actor then 0 else spares o

pub less_there : (spares : ℕ → ℕ) (actor : ℕ) → spares_less spares actor actor ≡ 0
unfolding spares_less
less_there spares actor = let e : (actor == actor) ≡ true = grind (arith, nat_tests) in rw e refl

pub less_else : (spares : ℕ → ℕ) (actor o : ℕ) → (o ≡ actor → ⊥) → spares_less spares actor o ≡ spares o
unfolding spares_less
less_else spares actor o apart = let e : (o == actor) ≡ false = grind (arith, nat_tests, apart) in rw e refl
