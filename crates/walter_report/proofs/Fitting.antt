-- The replies to clients, as they are found in trails: each has a frame, and the lines of the clients tell them.
use Rattle.std.proofs.Common.{◌≡◌, ◌≤◌, ◌<◌, ◌+◌, ◌++◌, ℕ, Bool, true, false, nat_eq, List, [], ◌∷◌, length, get_or, drop, map, flat_map, All, refl, sym, ap, subst, ◌∙◌, arith}
use Rattle.std.specs.Prelude.{if◌then◌else◌}
use Rattle.std.specs.Borrow.{Bor}
use Rattle.std.proofs.Math.ListN.{get_or-map}
use Rattle.std.proofs.lemmas.List.{drop_more, get_or_default, length-append, length-map}
use Rattle.std.proofs.lemmas.List.Elements.{All-nil, All-append, All-head, All-tail}
use Rattle.walter_base.specs.declared.message.Reply.{Reply}
use Rattle.walter_fields.specs.Spellings.{number_spelled}
use Rattle.walter_fields.proofs.Numbers.{length-number_spelled}
use Rattle.walter_reply.specs.Replies.{reply_spelled, FitsFrame}
use Rattle.walter_rules.specs.declared.entry.Entry.{Entry}
use Rattle.walter_rules.specs.declared.event.Event.{Event}
use Rattle.walter_rules.specs.declared.event.Event.TheVariants.{Given}
use Rattle.walter_rules.specs.declared.event.Input.TheVariants.{Call}
use Rattle.walter_rules.specs.declared.outcome.Outcome.{Outcome}
use Rattle.walter_scenario.specs.declared.scenario.Client.{Client}
use Rattle.walter_report.specs.Answered.{HaveEach, answered_lines}
use Rattle.walter_report.specs.Reports.{reply_in, reply_to, reply_frame, replies_to, client_line, client_lines, HaveFrames}

all_flat : {X Y : Type 0} (P : Y → Type 0) (f : X → List Y) (xs : List X) → All (λ x. All P (f x)) xs
    → All P (flat_map f xs)
all_flat P f [] all = All-nil P
all_flat P f (x ∷ xs) all = All-append P (f x) (flat_map f xs) (All-head (λ y. All P (f y)) x xs all)
    (all_flat P f xs (All-tail (λ y. All P (f y)) x xs all))

fits_where : (test : Bool) (replies : List Reply) → All FitsFrame replies
    → All FitsFrame (if test then replies else [])
fits_where true replies fits = fits
fits_where false replies fits = All-nil FitsFrame

reply_fits : (c : ℕ) (event : Event) (outcome : Outcome) → All FitsFrame (reply_in outcome)
    → All FitsFrame (reply_to c event outcome)
reply_fits c (Given (Call client call)) outcome fits = fits_where (nat_eq client c) (reply_in outcome) fits
reply_fits c event outcome fits = All-nil FitsFrame

trail_fits : (c : ℕ) (trail : List Entry) → All (λ e. All FitsFrame (reply_in e.came.outcome)) trail
    → All FitsFrame (replies_to c trail)
trail_fits c trail fits = all_flat FitsFrame (λ (e : Entry). reply_to c e.event e.came.outcome) trail
    (λ i d within. reply_fits c (get_or trail i d).event (get_or trail i d).came.outcome (fits i d within))

-- each reply to each client has a frame
pub answered_fit : (answered : List (List Reply)) (trails : List (List Entry)) → HaveFrames trails
    → HaveEach answered (λ c. flat_map (replies_to c) trails) → All (λ replies. All FitsFrame replies) answered
answered_fit answered trails frames have = λ c d within.
    subst (λ replies. All FitsFrame replies) (sym (have c d within))
    (all_flat FitsFrame (replies_to c) trails (λ i t there. trail_fits c (get_or trails i t) (frames i t there)))

-- the lines of clients of whom each got its replies in the trails
pub answered_as : (number : ℕ) (clients : List Client) (answered : List (List Reply)) (trails : List (List Entry))
    → number + length clients ≤ length answered → HaveEach answered (λ c. flat_map (replies_to c) trails)
    → answered_lines number clients answered ≡ client_lines number clients trails
answered_as number [] answered trails few have = refl
answered_as number (client ∷ clients) answered trails few have = λ j.
    client_line number client.site.0 (have number [] (omega (arith, few)) j)
    ++ answered_as (number + 1) clients answered trails (omega (arith, few)) have j

-- the line of a client, and those of the clients behind it
pub answered_next : (clients : List Client) (answered : List (List Reply)) (number : ℕ) (client : Client)
    (replies : List Reply) → number < length clients → length clients ≤ length answered
    → client ≡ get_or clients number client → replies ≡ get_or answered number replies
    → answered_lines number (drop number clients) answered
    ≡ client_line number client.site.0 replies ++ answered_lines (number + 1) (drop (number + 1) clients) answered
answered_next clients answered number client replies within few is are =
    let rest = answered_lines (number + 1) (drop (number + 1) clients) answered in
    let same : get_or answered number [] ≡ replies =
    get_or_default answered number [] replies (omega (arith, within, few)) ∙ sym are in
    ap (λ cs. answered_lines number cs answered) (drop_more clients number client within)
    ∙ ap (λ (c : Client). client_line number c.site.0 (get_or answered number []) ++ rest) (sym is)
    ∙ ap (λ rs. client_line number client.site.0 rs ++ rest) same

-- no frame is empty
pub frame_some : (reply : Reply) → 0 < length (reply_frame reply)
frame_some reply =
    let bytes = reply_spelled reply in
    omega (
      arith,
      length-append (number_spelled 4 (length bytes)) bytes,
      length-number_spelled 4 (length bytes),
    )

-- ---- replies where they lie

places_frames : (places : List (Bor Reply))
    → flat_map (λ (place : Bor Reply). reply_frame place.now) places
    ≡ flat_map reply_frame (map (λ (place : Bor Reply). place.now) places)
places_frames [] = refl
places_frames (place ∷ places) = ap (λ t. reply_frame place.now ++ t) (places_frames places)

pub frames_places : (places : List (Bor Reply)) (replies : List Reply)
    → map (λ (place : Bor Reply). place.now) places ≡ replies
    → flat_map (λ (place : Bor Reply). reply_frame place.now) places ≡ flat_map reply_frame replies
frames_places places replies are = places_frames places ∙ ap (flat_map reply_frame) are

pub count_places : (places : List (Bor Reply)) (replies : List Reply)
    → map (λ (place : Bor Reply). place.now) places ≡ replies → length places ≡ length replies
count_places places replies are = sym (length-map places (λ (place : Bor Reply). place.now)) ∙ ap length are

pub fit_places : (places : List (Bor Reply)) (replies : List Reply)
    → map (λ (place : Bor Reply). place.now) places ≡ replies → All FitsFrame replies
    → All (λ (place : Bor Reply). FitsFrame place.now) places
fit_places places replies are fit = λ k d within.
    let now = λ (place : Bor Reply). place.now in
    let there : k < length (map now places) = omega (arith, within, length-map places now) in
    subst FitsFrame (get_or-map now places k d) (subst (All FitsFrame) (sym are) fit k (now d) there)
