-- Keys that are lowered. The key of an unfinished state may fall to what the way by one of its transitions costs: then no key rises, the transition
-- accounts for the new key, and every other key is still accounted for by the transition that accounted for it (`keys_lowered`). So an offer to the
-- state behind a transition keeps the keys (`keys_offered`), and so does a transition that is relaxed (`pass-turn`). Over a pass either some key fell,
-- and with it the sum of the keys, or the keys are those that it began with, and no transition passed can lower one (`Passing`). The keys of a search
-- begin as the closes of the final states (`Seeding`). Assumes nothing.
use mathlib.Core.Bool.{Bool, true, false, true≢false}
use mathlib.Core.List.{List}
use mathlib.Core.Logic.{◌⊎◌, inl, inr, ◌≢◌}
use mathlib.Core.Path.{◌≡◌, refl, sym, ◌∙◌}
use Prim.Native.Nat.{ℕ, suc, ◌+◌, ◌≤◌, ◌<◌}
use native.Mathlib.Nat.{le_refl}
use native.Mathlib.Omega.{arith}
use lib.ListN.{length, set, length-set}
use Rattle.search.specs.Arrays.{Arrays, arrays, at, FinalIn, UnfinishedIn, Leaves, Bounded}
use Rattle.search.specs.Sizes.{sum_to}
use Rattle.keys.specs.Keys.{Keys, Settled, Passing, Offered, Relaxed}
use Rattle.search.specs.Sizes.{far, heaviest}
use Rattle.search.proofs.Places.{at_set, sum-falls}
use Rattle.arrays.proofs.Lists.{same_or_not}

-- no mark is both
pub never_both : {b : Bool} → b ≡ true → b ≡ false → ⊥
never_both p q = true≢false (sym p ∙ q)

-- one key lowered raises none
lowered_le : (key : List ℕ) (s x : ℕ) → s < length key → x < at key s → (u : ℕ) → at (set key s x) u ≤ at key u
lowered_le key s x h l u = go (at_set key s x u h)
  where
    go : ((u ≡ s) × (at (set key s x) u ≡ x)) ⊎ ((u ≢ s) × (at (set key s x) u ≡ at key u)) → at (set key s x) u ≤ at key u
    go (inl e) = rw (e.1, e.0) (omega arith)
    go (inr e) = rw e.1 (le_refl _)

sum_lowered : (n : ℕ) (key : List ℕ) (s x : ℕ) → s < n → s < length key → x < at key s → sum_to n (at (set key s x)) < sum_to n (at key)
sum_lowered n key s x b h l = sum-falls n (at key) (at (set key s x)) s b (there (at_set key s x s h)) (λ u q ne. lowered_le key s x h l u)
  where
    there : ((s ≡ s) × (at (set key s x) s ≡ x)) ⊎ ((s ≢ s) × (at (set key s x) s ≡ at key s)) → at (set key s x) s < at key s
    there (inl e) = rw e.1 l
    there (inr e) = absurd (e.0 refl)

-- whether a pass has lowered a key after a transition that did (l says so), and after one that did not
abbrev Lowers : Bool → Bool → Bool → Type 0
Lowers r l r' = ((l ≡ true) × (r' ≡ true)) ⊎ ((l ≡ false) × (r' ≡ r))

module _ {A : Arrays} {weight close : List ℕ} where
  -- an unfinished state's key lowered to what the way by its transition t costs
  pub keys_lowered : {key : List ℕ} (t x : ℕ) → Bounded A → t < A.m → UnfinishedIn A.marks (at A.from t) → at weight t + at key (at A.to t) ≡ x
      → x < at key (at A.from t) → Keys A weight close key → Keys A weight close (set key (at A.from t) x)
  keys_lowered {key} t x bounded listed unfinished costs lower k = record {
    sized = rw length-set k.sized;
    most = λ u h. omega (arith, no-rise u, k.most u h);
    at-final = λ u h f. at-final u h f (at_set key s x u room);
    accounted = λ u h o b. accounted u h o b (at_set key s x u room);
  }
    where
      s : ℕ
      s = at A.from t

      room : s < length key
      room = omega (arith, bounded.leaves t listed, bounded.states, k.sized)

      no-rise : (u : ℕ) → at (set key s x) u ≤ at key u
      no-rise = lowered_le key s x room lower

      at-final : (u : ℕ) → u < A.n → FinalIn A.marks u → ((u ≡ s) × (at (set key s x) u ≡ x)) ⊎ ((u ≢ s) × (at (set key s x) u ≡ at key u))
          → at (set key s x) u ≡ at close u
      at-final u h f (inl e) = absurd (never_both (rw e.0 at f) unfinished)
      at-final u h f (inr e) = e.1 ∙ k.at-final u h f

      accounted : (u : ℕ) → u < A.n → UnfinishedIn A.marks u → at (set key s x) u < far
          → ((u ≡ s) × (at (set key s x) u ≡ x)) ⊎ ((u ≢ s) × (at (set key s x) u ≡ at key u))
          → (v : ℕ) × Leaves A u v × (at weight v + at (set key s x) (at A.to v) ≤ at (set key s x) u)
      accounted u h o b (inl e) = (t, record { listed = listed; source = sym e.0 }, rw e.1 (omega (arith, no-rise (at A.to t))))
      accounted u h o b (inr e) =
          let a = k.accounted u h o (rw e.1 at b) in
          (a.0, a.1, rw e.1 (omega (arith, a.2, no-rise (at A.to a.0))))

  -- an offer to the state behind the transition t
  pub keys_offered : {key key' : List ℕ} (t x : ℕ) → Bounded A → t < A.m → at weight t + at key (at A.to t) ≡ x
      → Offered A.marks (at A.from t) x key key' → Keys A weight close key → Keys A weight close key'
  keys_offered {key} {key'} t x bounded listed costs (inl e) k = rw e k
  keys_offered {key} {key'} t x bounded listed costs (inr o) k = rw o.2 (keys_lowered t x bounded listed o.1 costs o.0 k)

  pub passing-none : {key : List ℕ} (bound : ℕ) → Keys A weight close key → Passing A weight close bound 0 key false key
  passing-none bound k = record {
    keys = k;
    fell = λ e. absurd (never_both e refl);
    kept = λ e. (refl, λ t l. absurd (omega arith));
  }

  pub pass-turn : {key₀ key key' : List ℕ} {bound i : ℕ} {r l r' : Bool} → Bounded A → i < A.m → Passing A weight close bound i key₀ r key
      → Relaxed A.marks A.from A.to weight bound i key l key' → Lowers r l r' → Passing A weight close bound (suc i) key₀ r' key'
  pass-turn {key₀} {key} {key'} {bound} {i} {r} {l} {r'} bounded listed p = go
    where
      room : at A.from i < length key
      room = omega (arith, bounded.leaves i listed, bounded.states, p.keys.sized)

      was : (b : Bool) → r ≡ b → sum_to A.n (at key) ≤ sum_to A.n (at key₀)
      was true e = omega (arith, p.fell e)
      was false e = rw (p.kept e).0 (le_refl _)

      go : Relaxed A.marks A.from A.to weight bound i key l key' → Lowers r l r' → Passing A weight close bound (suc i) key₀ r' key'
      go (inl a) (inl b) = rw a.3 (record {
        keys = keys_lowered i _ bounded listed a.2 refl a.1 p.keys;
        fell = λ e. omega (arith, was r refl, sum_lowered A.n key (at A.from i) _ (bounded.leaves i listed) room a.1);
        kept = λ e. absurd (never_both b.1 e);
      })
      go (inl a) (inr b) = absurd (never_both a.0 b.0)
      go (inr a) (inl b) = absurd (never_both b.0 a.0)
      go (inr a) (inr b) = rw (a.1, b.1) (record {
        keys = p.keys;
        fell = p.fell;
        kept = λ e. ((p.kept e).0, λ t h. settled t (p.kept e).1 (same_or_not t i) h);
      })
        where
          settled : (t : ℕ) → Settled A weight i bound key → (t ≡ i) ⊎ (t ≢ i) → t < suc i → UnfinishedIn A.marks (at A.from t)
              → (at key (at A.from t) ≤ at weight t + at key (at A.to t)) ⊎ (bound ≤ at weight t + at key (at A.to t))
          settled t q (inl e) h = rw e a.2
          settled t q (inr ne) h = q t (omega (arith, ne))

-- what the search begins with: the close of a final state for its key, and no key for any other
abbrev Seeded : List ℕ → List ℕ → List ℕ → ℕ → Type 0
Seeded marks close key u = (FinalIn marks u × (at key u ≡ at close u)) ⊎ (UnfinishedIn marks u × (at key u ≡ far))

-- .. of the states below i
pub record Seeding (marks close : List ℕ) (i : ℕ) (key : List ℕ) : Type 0 where
  pub sized : 512 ≤ length key
  pub each : (u : ℕ) → u < i → Seeded marks close key u

module _ {marks close : List ℕ} where
  pub seeding_none : {key : List ℕ} → 512 ≤ length key → Seeding marks close 0 key
  seeding_none sized = record { sized = sized; each = λ u l. absurd (omega arith) }

  -- one state more
  seeding_more : {key : List ℕ} {i : ℕ} (x : ℕ) → i < 512 → (at (set key i x) i ≡ x → Seeded marks close (set key i x) i) → Seeding marks close i key → Seeding marks close (suc i) (set key i x)
  seeding_more {key} {i} x l new k = record { sized = rw length-set k.sized; each = λ u h. go u h (at_set key i x u (omega (arith, k.sized))) }
    where
      kept : (u : ℕ) → at (set key i x) u ≡ at key u → Seeded marks close key u → Seeded marks close (set key i x) u
      kept u e (inl q) = inl (q.0, e ∙ q.1)
      kept u e (inr q) = inr (q.0, e ∙ q.1)

      go : (u : ℕ) → u < suc i → ((u ≡ i) × (at (set key i x) u ≡ x)) ⊎ ((u ≢ i) × (at (set key i x) u ≡ at key u)) → Seeded marks close (set key i x) u
      go u h (inl e) = rw e.0 (new (rw e.0 at e.1))
      go u h (inr e) = kept u e.1 (k.each u (omega (arith, e.0)))

  pub seeding_final : {key : List ℕ} {i : ℕ} → i < 512 → FinalIn marks i → Seeding marks close i key → Seeding marks close (suc i) (set key i (at close i))
  seeding_final {key} {i} l f = seeding_more (at close i) l (λ e. inl (f, e))

  pub seeding_other : {key : List ℕ} {i : ℕ} → i < 512 → UnfinishedIn marks i → Seeding marks close i key → Seeding marks close (suc i) (set key i far)
  seeding_other {key} {i} l o = seeding_more far l (λ e. inr (o, e))

  pub seeded : {key : List ℕ} {n : ℕ} → ((s : ℕ) → at close s ≤ heaviest) → Seeding marks close n key → (m : ℕ) (from to weight : List ℕ) → Keys (arrays n m marks from to) weight close key
  seeded {key} {n} w k m from to weight = record {
    sized = k.sized;
    most = λ s h. most s (k.each s h);
    at-final = λ s h f. at-final s f (k.each s h);
    accounted = λ s h o b. absurd (known s o b (k.each s h));
  }
    where
      most : (s : ℕ) → Seeded marks close key s → at key s ≤ far
      most s (inl q) = rw q.1 (omega (arith, w s))
      most s (inr q) = rw q.1 (le_refl _)

      at-final : (s : ℕ) → FinalIn marks s → Seeded marks close key s → at key s ≡ at close s
      at-final s f (inl q) = q.1
      at-final s f (inr q) = absurd (never_both f q.0)

      known : (s : ℕ) → UnfinishedIn marks s → at key s < far → Seeded marks close key s → ⊥
      known s o b (inl q) = never_both q.0 o
      known s o b (inr q) = omega (arith, q.1)
