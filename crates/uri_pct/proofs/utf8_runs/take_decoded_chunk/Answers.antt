use Rattle.uri_pct.proofs.Common.{◌∷◌, [], map, sym, subst, arith, on_ok_weaker, chunk_of, window_bytes, Literal, Decoded, parts_from, utf8_pieces}
use Rattle.uri_pct.proofs.utf8_runs.take_decoded_chunk.Goals as goal

pub returns-in_ok-take_window-in-Unencoded : goal.returns-in_ok-take_window-in-Unencoded
unfolding parts_from
returns-in_ok-take_window-in-Unencoded g c = on_ok_weaker c.take_unencoded.result
    (λ taken u suffix h.
    let took = g.T.TakeParts.took in
    let on = g.met.T.TakeParts.takes_appended_parts in
    let run = window_bytes c.args.window.now in
    let text = c.in-Unencoded.text.now in
    let start = c.args.taker.now in
    let middle = c.take_window.new.taker in
    let end = c.take_unencoded.new.self in
    let window_bytes = c.in_ok-take_window-in-Unencoded.ensures in
    let left : took end (parts_from [] suffix) u =
    subst (λ bytes. took end (parts_from bytes suffix) u) window_bytes.emptied h in
    let rest = on middle end u (Literal text ∷ []) (parts_from [] suffix) taken left in
    subst (λ chunk. took start (parts_from run (chunk_of chunk ∷ suffix)) u) (sym c.in-Unencoded.is)
    (on start middle u (map Decoded (utf8_pieces run)) (Literal text ∷ parts_from [] suffix)
    window_bytes.taken rest)) c.take_unencoded.ensures

pub returns-in-PctDecoded : goal.returns-in-PctDecoded
returns-in-PctDecoded g c = grind (arith, on_ok_weaker)
