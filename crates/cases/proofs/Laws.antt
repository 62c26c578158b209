-- Cases in order tell one refusal, and the decisions of refusal tell what their cases say.
use Prim.Native.Nat.{ℕ, ◌≤◌, ◌<◌}
use native.Mathlib.Omega.{arith}
use mathlib.Core.Path.{◌≡◌, refl, sym, ap, ap₂, subst, ◌∙◌}
use mathlib.Core.Logic.{◌↔◌, ◌⊎◌, inl, inr, ⊎_elim}
use mathlib.Core.Bool.{Bool, true, false, not, cond}
use mathlib.Core.List.{List, [], ◌∷◌, ◌++◌}
use lib.Dec.{T, T_not}
use lib.ListN.{length, get_or}
use borrow.Author.Tests.{eq-eqb, ne_eqb, eqb-true, lt-ltb, le-ltb}
use Rattle.model.specs.Count.{first_fail}
use Rattle.model.proofs.Tests.{le_or_lt}
use Rattle.model.proofs.Fails.{fails_at, fails_first}
use Rattle.refusal.specs.Told.{Refusal}
use Rattle.refusal.specs.Refusal.{none, accepts, or_else, when, refuse_at, scan}
use Rattle.refusal.specs.declared.Reason.{Reason}
use Rattle.refusal.specs.Reasons.{reason_number}
use Rattle.refusal.proofs.Laws.{reason_not_0}
use Rattle.cases.specs.Cases.{Case, plain, placed, Nowhere, First, Told, NoCase}

same_refusal : {r s : Refusal} → r.number ≡ s.number → r.place ≡ s.place → r ≡ s
same_refusal p q = ap₂ {C = Refusal} (λ n i. record { number = n; place = i }) p q

-- a case refuses
refuses : {c : Case} {r : Refusal} → First c r → r.number ≡ 0 → ⊥
refuses {c} f z = reason_not_0 c.reason (sym f.number_is ∙ z)

-- a case has one refusal
first_one : {c : Case} {r s : Refusal} → First c r → First c s → r ≡ s
first_one {c} {r} {s} f g = same_refusal (f.number_is ∙ sym g.number_is) place
  where
    place : r.place ≡ s.place
    place =
        ⊎_elim
        (λ p. ⊎_elim (λ q. omega arith) (λ q. absurd (f.first s.place q g.here)) (le_or_lt r.place s.place))
        (λ p. absurd (g.first r.place p f.here))
        (le_or_lt s.place r.place)

-- TWO REFUSALS told by the same cases are one: what the cases tell settles number and place
pub told_one : (cs : List Case) (r s : Refusal) → Told cs r → Told cs s → r ≡ s
unfolding Told
told_one [] r s p q = p ∙ sym q
told_one (c ∷ cs) r s (inl f) (inl g) = first_one f g
told_one (c ∷ cs) r s (inl f) (inr (n, t)) = absurd (n r.place f.here)
told_one (c ∷ cs) r s (inr (n, t)) (inl g) = absurd (n s.place g.here)
told_one (c ∷ cs) r s (inr (n, t)) (inr (k, u)) = told_one cs r s t u

-- NUMBER 0 exactly where no case holds
pub told_none : (cs : List Case) (r : Refusal) → Told cs r → r.number ≡ 0 → NoCase cs
unfolding Told NoCase
told_none [] r t z = tt
told_none (c ∷ cs) r (inl f) z = absurd (refuses f z)
told_none (c ∷ cs) r (inr (n, t)) z = (n, told_none cs r t z)

pub none_told : (cs : List Case) (r : Refusal) → Told cs r → NoCase cs → r ≡ none
unfolding Told NoCase
none_told [] r t n = t
none_told (c ∷ cs) r (inl f) (n, ns) = absurd (n r.place f.here)
none_told (c ∷ cs) r (inr (k, t)) (n, ns) = none_told cs r t ns

-- ---- the decisions

module _ (r s : Refusal) where
  or_stays : (r.number ≡ 0 → ⊥) → or_else r s ≡ r
  unfolding or_else
  or_stays h = rw (ne_eqb r.number 0 h)

  or_goes : r.number ≡ 0 → or_else r s ≡ s
  unfolding or_else
  or_goes z = rw (eq-eqb r.number 0 z)

  first_or : {c : Case} → First c r → First c (or_else r s)
  first_or {c} f = subst (First c) (sym (or_stays (refuses f))) f

  -- the cases of the first decision, then those of the next, which is asked where the first refuses nothing
  pub told_or : (cs ds : List Case) → Told cs r → (r.number ≡ 0 → Told ds s) → Told (cs ++ ds) (or_else r s)
  unfolding Told
  told_or [] ds t k = let z : r.number ≡ 0 = ap (λ x. x.number) t in subst (Told ds) (sym (or_goes z)) (k z)
  told_or (c ∷ cs) ds (inl f) k = inl (first_or f)
  told_or (c ∷ cs) ds (inr (n, t)) k = inr (n, told_or cs ds t k)

-- after what cases tell, a decision that refuses nothing changes nothing
pub or_nothing : (cs : List Case) (r : Refusal) → Told cs r → or_else r none ≡ r
unfolding or_else
or_nothing cs r t = by (accepts r) refl
  where
    by : (b : Bool) → accepts r ≡ b → cond b none r ≡ r
    by true e = sym (none_told cs r t (told_none cs r t (eqb-true r.number 0 e)))
    by false e = refl

-- where an answer is by cases on the refusal, and tells none where it is accepted and else the refusal, it tells what the cases do
pub told_answer : {A : Type 0} (cs : List Case) (r : Refusal) → Told cs r → (tells : A → Refusal) (x y : A) → tells x ≡ none → tells y ≡ r
    → Told cs (tells (cond (accepts r) x y))
told_answer cs r t tells x y p q = by (accepts r) refl
  where
    by : (b : Bool) → accepts r ≡ b → Told cs (tells (cond b x y))
    by true e = subst (Told cs) (none_told cs r t (told_none cs r t (eqb-true r.number 0 e)) ∙ sym p) t
    by false e = subst (Told cs) (sym q) t

-- a test of a sentence
module _ (reason : Reason) (b : Bool) {P : Type 0} (h : T b ↔ P) where
  pub told_when : Told (plain reason P ∷ []) (when b (reason_number reason))
  unfolding Told
  told_when = by b h
    where
      by : (t : Bool) → T t ↔ P
          → First (plain reason P) (when t (reason_number reason)) ⊎ (Nowhere (plain reason P) × (when t (reason_number reason) ≡ none))
      by true g = inl (record { number_is = refl; here = (refl, g.0 tt); first = λ i l. absurd (omega arith) })
      by false g = inr (λ i (e, p). g.1 p, refl)

-- the least place of those below n of which the sentence holds: i, or none where i is past them
module _ (reason : Reason) (i n : ℕ) {P : ℕ → Type 0} (here : i < n → P i) (least : (j : ℕ) → P j → (j < n) × (i ≤ j)) where
  abbrev told : Refusal
  told = refuse_at (reason_number reason) i n

  pub told_at : Told (placed reason P ∷ []) told
  unfolding Told
  told_at = ⊎_elim past below (le_or_lt n i)
    where
      below : i < n → First (placed reason P) told ⊎ (Nowhere (placed reason P) × (told ≡ none))
      below l = rw (lt-ltb i n l) (inl (record {
        number_is = refl;
        here = here l;
        first = λ j k p. omega (arith, least j p);
      }))

      past : n ≤ i → First (placed reason P) told ⊎ (Nowhere (placed reason P) × (told ≡ none))
      past l = rw (le-ltb i n l) (inr (λ j p. omega (arith, least j p), refl))

-- a scan of a list whose test fails exactly where the sentence holds
module _ (reason : Reason) (f : ℕ → Bool) (xs : List ℕ) {P : ℕ → Type 0}
    (fails : (i : ℕ) → i < length xs → T (not (f (get_or xs i 0))) ↔ P i) where
  pub told_scan : Told (placed reason (λ i. (i < length xs) × P i) ∷ []) (scan f (λ _. reason_number reason) xs)
  unfolding scan
  told_scan = told_at reason (first_fail f xs) (length xs) (λ l. (l, (fails (first_fail f xs) l).0 (fails_at f xs l))) least
    where
      least : (j : ℕ) → (j < length xs) × P j → (j < length xs) × (first_fail f xs ≤ j)
      least j (l, p) = (
        l,
        ⊎_elim (λ h. h) (λ h. absurd (T_not (f (get_or xs j 0)) ((fails j l).1 p) (fails_first f xs j h))) (le_or_lt (first_fail f xs) j),
      )

-- three decisions in order, grouped either way
pub or_assoc : (a b c : Refusal) → or_else (or_else a b) c ≡ or_else a (or_else b c)
unfolding or_else
or_assoc a b c = by (accepts a) refl
  where
    by : (t : Bool) → accepts a ≡ t → cond (accepts (cond t b a)) c (cond t b a) ≡ cond t (cond (accepts b) c b) a
    by true e = refl
    by false e = rw e refl
