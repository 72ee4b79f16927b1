-- Every list of calls has such slices: its kinds, four arguments for each, and the octets of its reads and imports one after another. So what replay promises
-- is said of every list. Assumes nothing.
use mathlib.Core.Bool.{true}
use mathlib.Core.List.{List, [], ◌∷◌, ◌++◌, append_assoc}
use mathlib.Core.Path.{◌≡◌, refl, sym, ap, ap₂, ◌∙◌}
use Prim.Native.Nat.{ℕ, zero, suc, ◌+◌, ◌-◌, ◌*◌, ◌/◌, ◌≤◌, ◌<◌}
use native.Mathlib.Nat.{not-suc-le-zero, le_of_suc-le-suc}
use native.Mathlib.Omega.{arith}
use borrow.Author.Tests.{le-leb, le-ltb}
use lib.ListN.{length, get_or, take, drop, length-append}
use lib.Seq.{take_at, drop_at}
use Rattle.rules.specs.Image.{tabulate}
use Rattle.rules.proofs.Tabulated.{tabulate-same, all-tabulate}
use Rattle.rules.specs.Calls.{Call, mark, team, join, unjoin, read, import}
use Rattle.rules.specs.Limits.{state_count_ok}
use Rattle.rules.specs.Refusal.{accepted}
use Rattle.calls.specs.Rows.{replay_rule}
use Rattle.calls.specs.Slices.{Item, item_at, call_in, is_call, calls_in, are_calls}

-- a call as an item, its octets behind the first k
item : ℕ → Call → Item
item k (mark state value) = record { kind = 0; a = state; b = value; c = 0; d = 0 }
item k (join t) = record { kind = 1; a = t.from; b = t.to; c = t.low; d = t.high }
item k (unjoin number) = record { kind = 2; a = number; b = 0; c = 0; d = 0 }
item k (read octets) = record { kind = 3; a = k; b = k + length octets; c = 0; d = 0 }
item k (import text) = record { kind = 4; a = k; b = k + length text; c = 0; d = 0 }
item k (team state number) = record { kind = 5; a = state; b = number; c = 0; d = 0 }

octets_in : Call → List ℕ
octets_in (mark state value) = []
octets_in (join t) = []
octets_in (unjoin number) = []
octets_in (read octets) = octets
octets_in (import text) = text
octets_in (team state number) = []

-- the three slices of a list whose octets stand behind the first k
kinds_of : ℕ → List Call → List ℕ
unfolding item octets_in
kinds_of k [] = []
kinds_of k (call ∷ calls) = (item k call).kind ∷ kinds_of (k + length (octets_in call)) calls

arguments_of : ℕ → List Call → List ℕ
unfolding item octets_in
arguments_of k [] = []
arguments_of k (call ∷ calls) = (item k call).a ∷ (item k call).b ∷ (item k call).c ∷ (item k call).d ∷ arguments_of (k + length (octets_in call)) calls

octets_of : List Call → List ℕ
unfolding octets_in
octets_of [] = []
octets_of (call ∷ calls) = octets_in call ++ octets_of calls

length-kinds : (k : ℕ) (calls : List Call) → length (kinds_of k calls) ≡ length calls
unfolding kinds_of
length-kinds k [] = refl
length-kinds k (call ∷ calls) = ap suc (length-kinds (k + length (octets_in call)) calls)

length-arguments : (k : ℕ) (calls : List Call) → length (arguments_of k calls) ≡ 4 * length calls
unfolding arguments_of
length-arguments k [] = refl
length-arguments k (call ∷ calls) =
    let r : length (arguments_of (k + length (octets_in call)) calls) ≡ 4 * length calls = length-arguments (k + length (octets_in call)) calls in
    omega arith

-- ---- what they hold

-- a tabulated list from its front
tabulate-front-one : {A : Type 0} (n : ℕ) (f : ℕ → A) → tabulate (suc n) f ≡ f 0 ∷ tabulate n (λ i. f (suc i))
unfolding tabulate
tabulate-front-one zero f = refl
tabulate-front-one {A} (suc n) f = ap {B = List A} (λ (l : List A). l ++ (f (suc n) ∷ [])) (tabulate-front-one n f)

-- a part, wherever it stands
part-back : (octets front rest : List ℕ) → take (length front + length octets - length front) (drop (length front) (front ++ octets ++ rest)) ≡ octets
part-back octets front rest =
    let k : ℕ = length front in
    let m : k + length octets - k ≡ length octets = omega arith in
    let d : drop k (front ++ octets ++ rest) ≡ octets ++ rest =
    ap (λ (l : List ℕ). drop k l) (append_assoc front octets rest) ∙ drop_at front (octets ++ rest) k refl in
    ap₂ (λ (x : ℕ) (l : List ℕ). take x l) m d ∙ take_at octets rest (length octets) refl

-- an item's call, wherever its octets stand
call_back : (call : Call) (front rest : List ℕ) → call_in (front ++ octets_in call ++ rest) (item (length front) call) ≡ call
unfolding item octets_in
call_back (mark state value) front rest = refl
call_back (join t) front rest = refl
call_back (unjoin number) front rest = refl
call_back (read octets) front rest = ap read (part-back octets front rest)
call_back (import text) front rest = ap import (part-back text front rest)
call_back (team state number) front rest = refl

call_is : (call : Call) (k long : ℕ) → k + length (octets_in call) ≤ long → is_call long (item k call) ≡ true
unfolding item octets_in
call_is (mark state value) k long h = refl
call_is (join t) k long h = refl
call_is (unjoin number) k long h = refl
call_is (read octets) k long h = rw (le-leb k (k + length octets) (omega arith), le-leb (k + length octets) long h)
call_is (import text) k long h = rw (le-leb k (k + length text) (omega arith), le-leb (k + length text) long h)
call_is (team state number) k long h = refl

-- ---- item by item

-- the items behind the first
behind : (k a b c d i : ℕ) (ks as' : List ℕ) → item_at (k ∷ ks) (a ∷ b ∷ c ∷ d ∷ as') (suc i) ≡ item_at ks as' i
behind k a b c d i ks as' =
    let e₀ : 4 * suc i ≡ suc (suc (suc (suc (4 * i)))) = omega arith in
    let e₁ : 4 * suc i + 1 ≡ suc (suc (suc (suc (4 * i + 1)))) = omega arith in
    let e₂ : 4 * suc i + 2 ≡ suc (suc (suc (suc (4 * i + 2)))) = omega arith in
    let e₃ : 4 * suc i + 3 ≡ suc (suc (suc (suc (4 * i + 3)))) = omega arith in
    let l : List ℕ = a ∷ b ∷ c ∷ d ∷ as' in
    λ j. record {
      kind = get_or ks i 0;
      a = ap (λ (x : ℕ). get_or l x 0) e₀ j;
      b = ap (λ (x : ℕ). get_or l x 0) e₁ j;
      c = ap (λ (x : ℕ). get_or l x 0) e₂ j;
      d = ap (λ (x : ℕ). get_or l x 0) e₃ j;
    }

calls_back : (calls : List Call) (front : List ℕ)
    → calls_in (kinds_of (length front) calls) (arguments_of (length front) calls) (front ++ octets_of calls) ≡ calls
unfolding calls_in kinds_of arguments_of octets_of tabulate
calls_back [] front = refl
calls_back (call ∷ calls) front =
    let k : ℕ = length front in
    let os : List ℕ = front ++ (octets_in call ++ octets_of calls) in
    let m : length (front ++ octets_in call) ≡ k + length (octets_in call) = length-append front (octets_in call) in
    let e : os ≡ front ++ octets_in call ++ octets_of calls = sym (append_assoc front (octets_in call) (octets_of calls)) in
    let ks : List ℕ = kinds_of (k + length (octets_in call)) calls in
    let as' : List ℕ = arguments_of (k + length (octets_in call)) calls in
    let t = item k call in
    let f : ℕ → Call = λ i. call_in os (item_at (t.kind ∷ ks) (t.a ∷ t.b ∷ t.c ∷ t.d ∷ as') i) in
    let rest : tabulate (length ks) (λ i. f (suc i)) ≡ calls =
    tabulate-same (length ks) (λ i. f (suc i)) (λ i. call_in (front ++ octets_in call ++ octets_of calls) (item_at ks as' i))
    (λ i h. ap₂ call_in e (behind t.kind t.a t.b t.c t.d i ks as'))
    ∙ ap (λ (x : ℕ). calls_in (kinds_of x calls) (arguments_of x calls) (front ++ octets_in call ++ octets_of calls)) (sym m)
    ∙ calls_back calls (front ++ octets_in call) in
    tabulate-front-one (length ks) f
    ∙ ap₂ {C = List Call} (λ (x : Call) (l : List Call). x ∷ l)
    (ap (λ (l : List ℕ). call_in l (item k call)) e ∙ call_back call front (octets_of calls)) rest

each-is : (calls : List Call) (k long : ℕ) → k + length (octets_of calls) ≤ long → (i : ℕ) → i < length calls
    → is_call long (item_at (kinds_of k calls) (arguments_of k calls) i) ≡ true
unfolding kinds_of arguments_of octets_of
each-is [] k long h i l = absurd (not-suc-le-zero l)
each-is (call ∷ calls) k long h zero l = call_is call k long (omega (arith, length-append (octets_in call) (octets_of calls)))
each-is (call ∷ calls) k long h (suc i) l =
    let t = item k call in
    ap (is_call long) (behind t.kind t.a t.b t.c t.d i (kinds_of (k + length (octets_in call)) calls) (arguments_of (k + length (octets_in call)) calls))
    ∙ each-is calls (k + length (octets_in call)) long (omega (arith, length-append (octets_in call) (octets_of calls))) i (le_of_suc-le-suc l)

-- ---- so it is

-- slices that stand for the list
pub record Slices (calls : List Call) : Type 0 where
  pub kinds : List ℕ
  pub arguments : List ℕ
  pub octets : List ℕ
  pub stand : calls_in kinds arguments octets ≡ calls
  pub are : are_calls kinds arguments octets ≡ true
  pub as_many : length kinds ≡ length calls

pub every-list : (calls : List Call) → Slices calls
unfolding are_calls
every-list calls =
    let ks = kinds_of 0 calls in
    let as' = arguments_of 0 calls in
    let os = octets_of calls in
    let lk : length ks ≡ length calls = length-kinds 0 calls in
    let la : length as' ≡ 4 * length calls = length-arguments 0 calls in
    record {
      kinds = ks;
      arguments = as';
      octets = os;
      stand = calls_back calls [];
      are =
          rw (le-leb (length ks) (length as' / 4) (omega arith))
          (all-tabulate (is_call (length os)) (length ks) (item_at ks as') (λ i l. each-is calls 0 (length os) (omega arith) i (omega arith)));
      as_many = lk;
    }

-- and no row refuses them, with a number of states, a place for each answer, the walks' places and the figures'
pub every-list-made : (n : ℕ) (calls : List Call) (answers walks out : List ℕ) → state_count_ok n ≡ true → length calls ≤ length answers
    → 2048 ≤ length walks → 16 ≤ length out → replay_rule n (every-list calls).kinds answers walks out ≡ accepted tt
unfolding replay_rule
every-list-made n calls answers walks out h a w o =
    let ks = (every-list calls).kinds in
    rw (h, le-ltb (length answers) (length ks) (omega (arith, (every-list calls).as_many)), le-ltb (length walks) 2048 w, le-ltb (length out) 16 o) refl
