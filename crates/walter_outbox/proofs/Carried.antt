-- What is put out, one packet after another.
use Rattle.std.proofs.Common.{◌≡◌, ℕ, ◌+◌, ◌≤◌, ◌⊎◌, inl, inr, List, [], ◌∷◌, ◌++◌, refl, ap, arith, Bool, true, false, if◌then◌else◌}
use Rattle.walter_base.specs.declared.names.SiteId.{SiteId}
use Rattle.walter_base.specs.Names.{same_site}
use Rattle.walter_rules.specs.Sending.{Send}
use Rattle.walter_rules.specs.Trails.{IsPutOut, all_out, put_out, drops, carried_one, lane_places}
use Rattle.walter_outbox.specs.Lanes.{IsPutWhereFree, none_left, goes_out, finds_full, IsFull}

-- how many each lane has carried behind these
abbrev pub behind : List Send → (SiteId → ℕ) → SiteId → ℕ
behind [] carried k = carried k
behind (s ∷ sends) carried k = behind sends (carried_one s.0 carried) k

pub behind_last : (sends : List Send) (s : Send) (carried : SiteId → ℕ) (k : SiteId)
    → behind (sends ++ s ∷ []) carried k ≡ carried_one s.0 (behind sends carried) k
behind_last [] s carried k = refl
behind_last (x ∷ sends) s carried k = behind_last sends s (carried_one x.0 carried) k

-- one more is put out, or dropped where its lane is full
pub put_last : (met : ℕ → ℕ) (carried : SiteId → ℕ) (planned sends : List Send) (dropped : ℕ) (s : Send)
    → IsPutWhereFree met carried planned sends dropped
    → IsPutWhereFree met carried (planned ++ s ∷ []) (sends ++ s ∷ []) dropped
put_last met carried planned sends dropped s (none_left counts) =
    goes_out counts s [] [] 0 (none_left (carried_one s.0 counts))
put_last met carried planned sends dropped s (goes_out counts x rest more lost is) =
    goes_out counts x (rest ++ s ∷ []) (more ++ s ∷ []) lost (put_last met (carried_one x.0 counts) rest more lost s is)
put_last met carried planned sends dropped s (finds_full counts x rest more lost full is) =
    finds_full counts x (rest ++ s ∷ []) (more ++ s ∷ []) lost full (put_last met counts rest more lost s is)

pub drop_last : (met : ℕ → ℕ) (carried : SiteId → ℕ) (planned sends : List Send) (dropped : ℕ) (s : Send)
    → IsFull (met s.0.0) (behind sends carried s.0) → IsPutWhereFree met carried planned sends dropped
    → IsPutWhereFree met carried (planned ++ s ∷ []) sends (dropped + 1)
drop_last met carried planned sends dropped s no_place (none_left counts) =
    finds_full counts s [] [] 0 no_place (none_left counts)
drop_last met carried planned sends dropped s no_place (goes_out counts x rest more lost is) =
    goes_out counts x (rest ++ s ∷ []) more (lost + 1)
    (drop_last met (carried_one x.0 counts) rest more lost s no_place is)
drop_last met carried planned sends dropped s no_place (finds_full counts x rest more lost full is) =
    finds_full counts x (rest ++ s ∷ []) more (lost + 1) full (drop_last met counts rest more lost s no_place is)

-- a lane that is full has carried as many packets as it has places
full_carried : (met carried : ℕ) → IsFull met carried → lane_places ≤ carried
full_carried met carried (inl many) = omega (arith, many)
full_carried met carried (inr spent) = omega (arith, spent)

-- what is put out wherever there is a place is put out as the rules allow
pub out_as_ruled : (met : ℕ → ℕ) (carried : SiteId → ℕ) (planned sends : List Send) (dropped : ℕ)
    → IsPutWhereFree met carried planned sends dropped → IsPutOut carried planned sends dropped
out_as_ruled met carried planned sends dropped (none_left counts) = all_out counts
out_as_ruled met carried planned sends dropped (goes_out counts x rest more lost is) =
    put_out counts x rest more lost (out_as_ruled met (carried_one x.0 counts) rest more lost is)
out_as_ruled met carried planned sends dropped (finds_full counts x rest more lost full is) =
    drops counts x rest more lost (full_carried (met x.0.0) (counts x.0) full) (out_as_ruled met counts rest more lost is)

-- ---- other counts of what lanes have carried

-- The counts are the same but where no lane goes: there the ends have never met, and the second may be greater.
abbrev pub AgreeOnLanes : (ℕ → ℕ) → (a b : SiteId → ℕ) → Type 0
AgreeOnLanes met a b = (k : SiteId) → (a k ≡ b k) ⊎ ((met k.0 ≡ 0) × (a k ≤ b k))

agree_one : (met : ℕ → ℕ) (to : SiteId) (a b : SiteId → ℕ) → AgreeOnLanes met a b
    → AgreeOnLanes met (carried_one to a) (carried_one to b)
agree_one met to a b agree k = by (same_site to k) (agree k)
  where
    by : (same : Bool) → (a k ≡ b k) ⊎ ((met k.0 ≡ 0) × (a k ≤ b k))
        → ((if same then a k + 1 else a k) ≡ (if same then b k + 1 else b k))
        ⊎ ((met k.0 ≡ 0) × ((if same then a k + 1 else a k) ≤ (if same then b k + 1 else b k)))
    by true (inl e) = inl (ap (λ n. n + 1) e)
    by true (inr less) = inr (less.0, omega (arith, less.1))
    by false is = is

agree_full : (met a b : ℕ) → (a ≡ b) ⊎ ((met ≡ 0) × (a ≤ b)) → IsFull met a → IsFull met b
agree_full met a b (inl e) (inl many) = inl (omega (arith, e, many))
agree_full met a b (inl e) (inr spent) = inr (omega (arith, e, spent))
agree_full met a b (inr less) (inl many) = inl (omega (arith, less.1, many))
agree_full met a b (inr less) (inr spent) = inl (omega (arith, less.0, less.1, spent))

pub agree_out : (met : ℕ → ℕ) (a b : SiteId → ℕ) (planned sends : List Send) (dropped : ℕ) → AgreeOnLanes met a b
    → IsPutWhereFree met a planned sends dropped → IsPutWhereFree met b planned sends dropped
agree_out met a b planned sends dropped agree (none_left counts) = none_left b
agree_out met a b planned sends dropped agree (goes_out counts x rest more lost is) =
    goes_out b x rest more lost (agree_out met _ _ rest more lost (agree_one met x.0 a b agree) is)
agree_out met a b planned sends dropped agree (finds_full counts x rest more lost full is) =
    finds_full b x rest more lost (agree_full (met x.0.0) (a x.0) (b x.0) (agree x.0) full)
    (agree_out met a b rest more lost agree is)

-- where lanes have carried more, as much may be lost
one_more : (to : SiteId) (a b : SiteId → ℕ) → ((k : SiteId) → a k ≤ b k) → (k : SiteId)
    → carried_one to a k ≤ carried_one to b k
one_more to a b less k = by (same_site to k)
  where
    by : (same : Bool) → (if same then a k + 1 else a k) ≤ (if same then b k + 1 else b k)
    by true = let l = less k in omega (arith, l)
    by false = less k

pub carried_more : (a b : SiteId → ℕ) (planned sends : List Send) (dropped : ℕ) → ((k : SiteId) → a k ≤ b k)
    → IsPutOut a planned sends dropped → IsPutOut b planned sends dropped
carried_more a b planned sends dropped less (all_out counts) = all_out b
carried_more a b planned sends dropped less (put_out counts x rest more lost is) =
    put_out b x rest more lost (carried_more _ _ rest more lost (one_more x.0 a b less) is)
carried_more a b planned sends dropped less (drops counts x rest more lost low is) =
    drops b x rest more lost (let l = less x.0 in omega (arith, low, l)) (carried_more a b rest more lost less is)
