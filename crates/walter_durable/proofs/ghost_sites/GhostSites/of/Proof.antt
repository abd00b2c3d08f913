-- `of` makes a value of no bytes, with what the listing says.
use Rattle.std.proofs.Common.{List, [], ◌∷◌, ◌++◌, refl}
use seplogic.Ra.Ura.{Ura}
use mir.Val.{Val, vstruct, vnil}
use base.Logic.{SProp, ent, emp, via, fst∗}
use prog.Memory.{Memory}
use prog.Routine.{Routine}
use prog.Wp.{Calls, Loops, WpFn, Tables}
use contract.Lifetimes.{Lfts, Shares, AllOutlive}
use contract.Monad.{Fun}
use contract.Running.{tables, tables_of}
use sound.WpLaws.{WpFn-mono}
use types.Logic.{Logic}
use types.Kit.{‵, raw, ◌$◌, ◌∵◌, !, qed, move, drop, fjoin, fpack, feq_i, suffices, done}
use types.Part.{agg}
use types.Run.{enter, returns, no_more}
use types.ByLocal.{alloc_all, pass_all, free_all, look_at, sets}
use denote.Exit.{yes}
use denote.RattleType.{owns, Valss}
use denote.Builtin.{RefOf}
use denote.Ref.{shr_vals}
use denote.Signature.{plain, types_at, named_lft}
use denote.Steps.{nothing}
use denote.Struct.Struct.{within}
use denote.Triple.Clauses.{Clauses, Ended, closing}
use denote.Triple.Entry.{on_entry, alive, Args}
use denote.Triple.Spec.{Meets, triple_of}
use denote.Triple.Table.{entered}
use denote.Triple.Walked.{says, Stays, stay_dropped, walk_of, Walks, walked, ends_at, walk_Meets, Goes-dropped}
use Rattle.walter_durable.specs.contracts.ghost_sites.Listing as Listing
use Rattle.walter_durable.specs.Listings.{listed_after}
use Rattle.walter_durable.specs.contracts.ghost_sites.GhostSites.of as F
use Rattle.walter_durable.specs.contracts.ghost_sites.GhostSites.of.Key.{name as #self}
use Rattle.walter_durable.proofs.ghost_sites.GhostSites.of.Statement as stated
use Rattle.walter_durable.proofs.ghost_sites.GhostSites.of.Code as code

abbrev ended : Ended
ended = F.ended

abbrev stayed : Stays ended.signature.params ended.kept
stayed = (stay_dropped _ yes, tt)

module _ {M : Type 1} {𝓤 : Ura M} (𝓛 : Logic 𝓤) (at_mem : Memory → SProp 𝓤) (run : Routine → Fun 𝓤) where
  open 𝓛 use {H}

  abbrev held : Clauses 𝓤 ended
  held = F.clauses 𝓛 at_mem run

  module _ (C : Calls 𝓤 H) (Λ : Loops 𝓤 H) (κs : Lfts 2) (qs : Shares 2) (bounds : AllOutlive 2 ended.signature.outlives κs) (a : Args ended.signature κs) where
    abbrev listing : List Val
    listing = shr_vals a.0

    abbrev bound : (walk_of 𝓛 ended stayed held).Ghost
    bound = ((κs, qs, bounds, a, (listing, tt)), tt)

    walk : ent 𝓤 (on_entry 𝓛 ended.signature κs qs a (listing, tt)) (WpFn 𝓤 H C Λ code.function (listing ++ []) ((walk_of 𝓛 ended stayed held).post bound))
    walk =
        qed 𝓛 (raw (alive 𝓛 ended.signature κs qs) ∷ ‵ (owns (types_at ended.signature.params κs) a (listing, tt)) ∷ []) ∵
        move ! (1 ∷ []) $ drop ! $
        enter ! C Λ code.function (listing ++ []) _ $
        alloc_all ! (λ l. pass_all ! refl ((tt, tt), tt) $
        sets ! (agg ! (no_more !)) refl (tt, tt) $
        nothing ! $ nothing ! $ feq_i ! (List Val) (vstruct vnil ∷ []) (vstruct vnil ∷ []) refl $ fjoin ! $
        fpack ! (Valss []) (within (record { name = []; args = []; types = []; fields = [] }) tt (vstruct vnil ∷ [])) tt $ fjoin ! $
        returns ! (look_at ! 0 refl) $ free_all ! refl $
        suffices ! _ (ends_at 𝓛 ended stayed held bound (vstruct vnil) (listed_after a.0.now) (tt, tt) (tt, tt)) $ says ! refl $
        nothing ! $ nothing ! $ fjoin ! $ move ! (2 ∷ 0 ∷ 1 ∷ []) $ done !)

  walks : (C : Calls 𝓤 H) (Λ : Loops 𝓤 H) → Walks 𝓛 ended stayed (WpFn 𝓤 H C Λ code.function) held
  walks C Λ =
      walked 𝓛 ended stayed held (WpFn 𝓤 H C Λ code.function) (λ κs. (shr_vals, tt)) (λ κs. ((λ x vs is. is.0), tt))
      (λ κs qs bounds a g are. via 𝓤 _ (fst∗ 𝓤 _ (emp 𝓤)) (walk C Λ κs qs bounds a))

  meets : (𝓣 : Tables 𝓤 H) → Meets 𝓛 ended.signature (WpFn 𝓤 H 𝓣.C 𝓣.Λ code.function) (closing 𝓛 ended held)
  meets 𝓣 =
      walk_Meets 𝓛 ended stayed (Goes-dropped 𝓛 2 (RefOf (0 ∷ []) tt (plain (λ κs. Listing.the_row (named_lft 2 1 tt κs))) (λ _. tt)) yes (λ κs x f. refl), tt) held
      (WpFn 𝓤 H 𝓣.C 𝓣.Λ code.function) (WpFn-mono 𝓤 H 𝓛.laws 𝓣 code.function) (walks 𝓣.C 𝓣.Λ)

pub of_spec : {M : Type 1} → stated.statement M
unfolding tables_of
of_spec 𝓤 𝓛 𝓜 𝓡 wired =
    let 𝓣 : Tables 𝓤 𝓛.H = tables_of 𝓤 𝓛.H 𝓜 (tables 𝓤 𝓛.H 𝓜 𝓡 𝓡.env) in
    entered 𝓤 𝓛.H (triple_of 𝓛 ended.signature (closing 𝓛 ended (held 𝓛 𝓜.mem 𝓡.returns))) 𝓣.C 𝓣.Λ #self code.function
    (code.unfolded 𝓤 𝓛.H 𝓜 𝓡 wired) (meets 𝓛 𝓜.mem 𝓡.returns 𝓣)
