-- What the code keeps, as one more transaction is held.
use Rattle.std.proofs.Common.{◌≡◌, ◌∙◌, ◌<◌, ◌++◌, ℕ, List, [], ◌∷◌, length, ap, sym, subst, if◌then◌else◌}
use Rattle.std.specs.Global.{Vec}
use Rattle.std.specs.Map.{lookup}
use Rattle.std.specs.Option.{option_or}
use Rattle.std.proofs.lemmas.List.Elements.{All-push}
use Rattle.walter_base.specs.declared.names.SiteId.{SiteId}
use Rattle.walter_base.specs.declared.names.Tid.{Tid}
use Rattle.walter_base.specs.Names.{same_site, same_tid}
use Rattle.walter_rules.specs.declared.held.Held.{Held}
use Rattle.walter_log.specs.Own.{named_seq}
use Rattle.walter_log.specs.Places.{places_of}
use Rattle.walter_log.specs.Logged.{AreWithin}
use Rattle.walter_log.specs.Kept.{AreKept}
use Rattle.walter_log.proofs.Placed.{placed_more}
use Rattle.walter_log.proofs.Numbered.{seq_in_more}

pub kept_more : (log : List Held) (h : Held) (places after : List (Vec ℕ))
    (numbers now : List (Tid × ℕ))
    → AreKept log places numbers → h.tx.tid.site.0 < length places → length after ≡ length places
    → ((j : SiteId) → places_of after j ≡ (if same_site h.tx.tid.site j
    then places_of places h.tx.tid.site ++ length log ∷ [] else places_of places j))
    → ((tid : Tid) → lookup (same_tid tid) now ≡ option_or (lookup (same_tid tid) numbers)
    (named_seq h.tx.tid h.seq tid)) → AreKept (log ++ h ∷ []) after now
kept_more log h places after numbers now kept inside many put named = record {
  within = subst (λ n. AreWithin n (log ++ h ∷ [])) (sym many)
      (All-push (λ x. x.tx.tid.site.0 < length places) log h kept.within inside);
  placed = λ j. placed_more log h places after kept.placed j (put j);
  numbered = λ tid.
      named tid ∙ ap (λ o. option_or o (named_seq h.tx.tid h.seq tid)) (kept.numbered tid)
      ∙ sym (seq_in_more log h tid);
}
