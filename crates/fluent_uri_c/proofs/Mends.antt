-- What mending returns is the result that is defined.
use Rattle.fluent_uri_c.proofs.Common.{arith, ◌≡◌, ◌⊎◌, ℕ, Bool, List, IsTrue, None, Ok, Err, is_ok, Kind, Rejection, mend_rejection, rejected, mended_link_result, mended_result, takes_memory_for_link, Returned, utf8_error}
use Rattle.uri_mend.specs.declared.error.MendError.{MendError}
use Rattle.uri_mend.specs.declared.error.MendError.TheVariants.{OutOfMemory}
use Rattle.uri_mend.specs.Mended.{IsMended}
use Rattle.uri_mend.specs.Refusing.{IsLinkErrorOf, IsMendErrorOf}
use Rattle.uri_mend.specs.Trimming.{trimmed_link}
use Rattle.fluent_uri_c.specs.declared.errors.Error.TheVariants as Of

-- exports for C: the text that a text is mended to is the one that the contract defines
pub mended_result-of-mended : (kind : Kind) (bytes text made : List ℕ) → None ≡ utf8_error bytes
    → text ≡ bytes → IsMended kind text made → mended_result kind bytes ≡ Ok made
mended_result-of-mended kind bytes text made valid same is = grind arith

pub mended_link_result-of-mended : (kind : Kind) (bytes text made : List ℕ)
    → None ≡ utf8_error bytes → text ≡ bytes → IsMended kind (trimmed_link text) made
    → mended_link_result kind bytes ≡ Ok made
mended_link_result-of-mended kind bytes text made valid same is = grind arith

-- exports for C: a rejection is that memory is out, where the call takes memory, or the defined one
abbrev pub IsErrorOf : Bool → Returned → Rejection → Type 0
IsErrorOf takes_memory returned why =
    ((why ≡ rejected Of.OutOfMemory) × IsTrue takes_memory) ⊎ (returned ≡ Err why)

-- exports for C: if mending fails, memory is out or the rejection is the one that is defined
pub mended_result-of-error : (kind : Kind) (bytes text : List ℕ) (error : MendError)
    (why : Rejection) → None ≡ utf8_error bytes → text ≡ bytes → IsMendErrorOf kind text error
    → why ≡ mend_rejection error
    → IsErrorOf (is_ok (mended_result kind bytes)) (mended_result kind bytes) why
mended_result-of-error kind bytes text error why valid same is e = grind arith

-- exports for C: if mending a link fails, memory is out or the rejection is the one that is defined
pub mended_link_result-of-error : (kind : Kind) (bytes text : List ℕ) (error : MendError)
    (why : Rejection) → None ≡ utf8_error bytes → text ≡ bytes → IsLinkErrorOf kind text error
    → why ≡ mend_rejection error
    → IsErrorOf (takes_memory_for_link kind bytes) (mended_link_result kind bytes) why
mended_link_result-of-error kind bytes text error why valid same is e = grind arith
