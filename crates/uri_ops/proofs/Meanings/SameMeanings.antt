-- Two meanings have the same parts exactly if they are equal.
use Rattle.uri_ops.proofs.Common.{◌≡◌, Bool, List, Option, refl, ap, bytes_eq, option_eq, Decides-and, Decides-like, bytes_eq-Decides, slice_eq-Decides, HostMeaning, Address, FutureAddress, Name, AuthorityMeaning, Meaning, Token, arith, common_steps}
use Rattle.std.specs.Bool.{Decides}
use Rattle.uri_ops.specs.SameMeanings.{same_token, same_tokens, same_host, same_authority, same_meaning}

-- equal meanings: comparing two options decides whether they are equal, if E does for values
option_eq-decides-equality : {A : Type 0} (E : A → A → Bool) → ((a b : A) → Decides (E a b) (a ≡ b))
    → (p q : Option A) → Decides (option_eq E p q) (p ≡ q)
option_eq-decides-equality o d b p = grind (arith, common_steps, d)

same_token-decides-equality : (a b : Token) → Decides (same_token a b) (a ≡ b)
same_token-decides-equality a b = grind (arith, common_steps)

-- equal meanings: comparing two lists of tokens decides whether they are equal
same_tokens-decides-equality : (a b : List Token) → Decides (same_tokens a b) (a ≡ b)
same_tokens-decides-equality a b = slice_eq-Decides same_token-decides-equality a b
    (same_tokens a b) refl

-- equal meanings: comparing the meanings of two hosts decides whether they are equal
host : (a b : HostMeaning) → Decides (same_host a b) (a ≡ b)
host (Address a) (Address b) = Decides-like _ (ap Address) (λ e. cc) (bytes_eq-Decides a b)
host (FutureAddress a) (FutureAddress b) =
    Decides-like _ (ap FutureAddress) (λ e. cc) (bytes_eq-Decides a b)
host (Name a) (Name b) = Decides-like _ (ap Name) (λ e. cc) (same_tokens-decides-equality a b)
host (Address a) (FutureAddress b) = (λ e. cc, λ e. cc)
host (Address a) (Name b) = (λ e. cc, λ e. cc)
host (FutureAddress a) (Address b) = (λ e. cc, λ e. cc)
host (FutureAddress a) (Name b) = (λ e. cc, λ e. cc)
host (Name a) (Address b) = (λ e. cc, λ e. cc)
host (Name a) (FutureAddress b) = (λ e. cc, λ e. cc)

-- equal meanings: comparing the meanings of two authorities decides whether they are equal
authority : (a b : AuthorityMeaning) → Decides (same_authority a b) (a ≡ b)
authority a b =
    Decides-like _ (λ e. λ i. record { userinfo = e.0 i; host = e.1.0 i; port = e.1.1 i }) (λ e. (
      ap (λ (m : AuthorityMeaning). m.userinfo) e,
      (ap (λ (m : AuthorityMeaning). m.host) e, ap (λ (m : AuthorityMeaning). m.port) e),
    )) (Decides-and _ _ (option_eq-decides-equality same_tokens
    same_tokens-decides-equality a.userinfo b.userinfo) (Decides-and _ _
    (host a.host b.host) (option_eq-decides-equality bytes_eq bytes_eq-Decides a.port b.port)))

-- equal meanings: the test of two meanings for equality returns true exactly if they are equal
pub same_meaning-decides-equality : (m n : Meaning) → Decides (same_meaning m n) (m ≡ n)
unfolding same_meaning
same_meaning-decides-equality m n = Decides-like _ (λ e. λ i. record {
  scheme = e.0 i;
  authority = e.1.0 i;
  path = e.1.1.0 i;
  query = e.1.1.1.0 i;
  fragment = e.1.1.1.1 i;
}) (λ e. (
  ap (λ (x : Meaning). x.scheme) e,
  (
    ap (λ (x : Meaning). x.authority) e,
    (
      ap (λ (x : Meaning). x.path) e,
      (ap (λ (x : Meaning). x.query) e, ap (λ (x : Meaning). x.fragment) e),
    ),
  ),
)) (Decides-and _ _ (option_eq-decides-equality bytes_eq bytes_eq-Decides m.scheme n.scheme)
    (Decides-and _ _ (option_eq-decides-equality same_authority authority m.authority n.authority)
    (Decides-and _ _ (same_tokens-decides-equality m.path n.path) (Decides-and _ _
    (option_eq-decides-equality same_tokens same_tokens-decides-equality m.query n.query)
    (option_eq-decides-equality same_tokens same_tokens-decides-equality m.fragment n.fragment)))))
