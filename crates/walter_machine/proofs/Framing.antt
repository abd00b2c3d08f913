-- The frames of packets, one after another.
use Rattle.std.proofs.Common.{◌≡◌, ℕ, ◌+◌, ◌<◌, List, [], ◌∷◌, ◌++◌, length, map, take, get_or, ap, sym, ◌∙◌, subst}
use Rattle.std.specs.Prelude.{All}
use Rattle.std.proofs.lemmas.List.{map-append, take_more}
use Rattle.std.proofs.lemmas.List.Elements.{All-more}
use Rattle.walter_packet.specs.Framed.{FramedBytes, frame_of, IsFramed}
use Rattle.walter_packet.specs.Spelling.{HasPacketSpelling}
use Rattle.walter_rules.specs.Sending.{Send}

module _ (sites : ℕ) (sends : List Send) (n : ℕ) (s : Send) (within : n < length sends) (is : s ≡ get_or sends n s) where
  pub frames_more : (frames new : List FramedBytes) (frame : FramedBytes) → new ≡ frames ++ frame ∷ []
      → frame ≡ frame_of sites s.1 → frames ≡ map (λ (x : Send). frame_of sites x.1) (take n sends)
      → new ≡ map (λ (x : Send). frame_of sites x.1) (take (n + 1) sends)
  frames_more frames new frame longer framed are =
      longer
      ∙ (ap (λ l. l ++ frame ∷ []) are
      ∙ (ap (λ (f : FramedBytes). map (λ (x : Send). frame_of sites x.1) (take n sends) ++ f ∷ []) framed
      ∙ (sym (map-append (λ (x : Send). frame_of sites x.1) (take n sends) (s ∷ []))
      ∙ ap (map (λ (x : Send). frame_of sites x.1))
      (ap (λ (x : Send). take n sends ++ x ∷ []) is ∙ sym (take_more sends n s within)))))

  pub spelled_more : (frame : FramedBytes) → frame ≡ frame_of sites s.1 → IsFramed frame s.1
      → All (λ (x : Send). HasPacketSpelling sites x.1) (take n sends)
      → All (λ (x : Send). HasPacketSpelling sites x.1) (take (n + 1) sends)
  spelled_more frame is_frame framed all =
      All-more (λ (x : Send). HasPacketSpelling sites x.1) sends n s within all
      (subst (λ (x : Send). HasPacketSpelling sites x.1) is
      (subst (λ (f : FramedBytes). HasPacketSpelling f.sites s.1) is_frame framed.spelled))
