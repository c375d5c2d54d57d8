-- What the calls of the counting host come to.
use Rattle.std.proofs.Common.{◌≡◌, ℕ, suc, ◌+◌, ◌%◌, ◌^◌, List, [], ◌∷◌, length, sym, ap, subst, ◌∙◌, arith}
use Rattle.std.proofs.Math.Nat.{mod-mod, mod-add-mod}
use Rattle.plain_machine.specs.Exchanges.{Ask, Answer, Exchange}
use Rattle.host_link.specs.Hosts.{HostState}
use Rattle.kernel_steps.specs.HostCalls.{CallsSince}
use Rattle.run_counters.specs.HandingOn.{HandsOn}
use Rattle.run_counters.specs.declared.counting_host.CountingHost.{CountingHost}

-- a call more before others, where all are counted modulo 2^64
one_first : (n k : ℕ) → ((n + 1) % 2 ^ 64 + k) % 2 ^ 64 ≡ (n + suc k) % 2 ^ 64
one_first n k =
    let e : (n + 1) + k ≡ n + suc k = omega arith in
    mod-add-mod (n + 1) (2 ^ 64) k ∙ ap (λ i. i % 2 ^ 64) e

-- what was called on the host within, and counted
pub record Handed {H : Type 0} (state : H → HostState) (made : H → H → Ask → ℕ → Answer → Type 0) (start now : CountingHost H) (exchanges : List Exchange) : Type 0 where
  pub calls : CallsSince state made start.inner.now now.inner.now exchanges
  pub count : now.exchanges ≡ (start.exchanges + length exchanges) % 2 ^ 64
  pub same : now.inner.ghost_name ≡ start.inner.ghost_name

pub handed : {H : Type 0} (state : H → HostState) (made : H → H → Ask → ℕ → Answer → Type 0) (start now : CountingHost H) (exchanges : List Exchange) → start.exchanges % 2 ^ 64 ≡ start.exchanges →
    CallsSince (λ h. state h.inner.now) (HandsOn made) start now exchanges → Handed state made start now exchanges
handed state made start now [] small calls =
    let none : start.exchanges + 0 ≡ start.exchanges = omega arith in
    record {
      calls = ap (λ h. h.inner.now) calls;
      count = ap (λ h. h.exchanges) calls ∙ sym small ∙ ap (λ n. n % 2 ^ 64) (sym none);
      same = ap (λ h. h.inner.ghost_name) calls;
    }
handed state made start now (x ∷ exchanges) small (next, call, rest) =
    let counted = call.own.counted in
    let more = handed state made next now exchanges (ap (λ n. n % 2 ^ 64) counted ∙ mod-mod (start.exchanges + 1) (2 ^ 64) ∙ sym counted) rest in
    record {
      calls = (next.inner.now, record { own = call.own.once; number = call.number; exchanged = call.exchanged }, more.calls);
      count = more.count ∙ ap (λ n. (n + length exchanges) % 2 ^ 64) counted ∙ one_first start.exchanges (length exchanges);
      same = more.same ∙ call.own.same_reference;
    }

-- the same calls, between hosts that are named otherwise
pub calls_between : {H : Type 0} (state : H → HostState) (made : H → H → Ask → ℕ → Answer → Type 0) (exchanges : List Exchange) {a b c d : H} → a ≡ b → c ≡ d → CallsSince state made a c exchanges → CallsSince state made b d exchanges
calls_between state made exchanges {b = b} {c = c} e f calls = subst (λ h. CallsSince state made b h exchanges) f (subst (λ h. CallsSince state made h c exchanges) e calls)
