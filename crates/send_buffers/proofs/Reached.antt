-- Buffers that began as a fresh link hold the numbers of the link that its calls reach. Assumes nothing.
use Prim.Native.Nat.{ℕ, ◌*◌}
use mathlib.Core.Bool.{Bool, true, false, cond}
use mathlib.Core.List.{List, [], ◌∷◌}
use mathlib.Core.Path.{◌≡◌, refl, ap, ◌∙◌, subst}
use lib.Dec.{eqb}
use lib.IntN.{ℤ}
use lib.ListN.{length}
use borrow.Author.Tests.{eq-eqb}
use Rattle.map_tiles.specs.Map.{sides_of}
use Rattle.map_tiles.specs.declared.tiles.Sides.{Sides}
use Rattle.character.specs.Tick.{seats}
use Rattle.world.specs.Run.{ran}
use Rattle.world.specs.Settled.{Settled}
use Rattle.world.specs.declared.call.Call.{Call}
use Rattle.world.specs.declared.call.Call.TheVariants.{Join, Leave, Input, Step, Tune}
use Rattle.world.specs.declared.World.{World}
use Rattle.send_rule.specs.Send.{Sent, send_nothing, send, receive_all}
use Rattle.send_rule.specs.Link.{Link, fresh_link, called}
use Rattle.send_rule.specs.declared.Copy.{Copy}
use Rattle.send_rule.specs.declared.Screen.{Screen}
use Rattle.send_rule.proofs.Linked.{Linked, linked_first, linked_next, sent-refused}
use Rattle.world_numbers.specs.Encoding.{world_count, records_count, encoding}
use Rattle.world_numbers.proofs.Encoded.{decoding-encoding}
use Rattle.send_numbers.specs.Copies.{copy_count, sender_count, copies_encoding, copies_decoding, screen_encoding}
use Rattle.send_numbers.specs.Passing.{passed_count}
use Rattle.send_numbers.proofs.CopiesBack.{copies_long, copies_come_back}
use Rattle.world_buffers.specs.Buffers.{LeftWorld, leave_in, tune_in}
use Rattle.world_buffers.specs.Stepping.{step_in}
use Rattle.world_buffers.specs.Following.{left_by}
use Rattle.world_buffers.proofs.Reached.{encoding_proper, one, one_number}
use Rattle.send_buffers.specs.Sends.{SenderBuffers, keep_sent, passed_in, send_in, send_step_in}
use Rattle.send_buffers.specs.Following.{arrived, LinkNumbers, link_numbers, Lent, after_send, after_step, link_left, link_left_all, called_all, LinkFollows}
use Rattle.send_buffers.proofs.Fit.{Copied, Fit, received_fit, fresh_fit}
use Rattle.send_buffers.proofs.KnownIds.{sent_known}
use Rattle.send_buffers.proofs.Arrivals.{sender-follows, screen-follows}

-- a test of two that are the same
either_same : {A : Type 0} (b : Bool) (x : A) → x ≡ cond b x x
either_same true x = refl
either_same false x = refl

-- three buffers, one by one
numbers_same : {u u' v v' w w' : List ℤ} → u ≡ u' → v ≡ v' → w ≡ w' → ◌≡◌ {A = LinkNumbers} (record { world = u; sender = v; screen = w }) (record { world = u'; sender = v'; screen = w' })
numbers_same p q r = rw (p, q, r)

-- the copies' numbers stand for them
copied_long : (cs : List Copy) → Copied seats cs → length (copies_encoding cs) ≡ sender_count
copied_long cs h = copies_long cs ∙ ap (λ (n : ℕ). copy_count * n) h.size

copied_back : (cs : List Copy) → Copied seats cs → copies_decoding seats (copies_encoding cs) ≡ cs
copied_back cs h = copies_come_back seats cs h.size (λ k q. h.steps k)

module _ (s : Sides) (ts : List ℕ) (b : Lent) (k : length b.told.records ≡ records_count) (m : length b.told.removed ≡ seats) (f : length b.passed ≡ passed_count) where
  abbrev lent : List Copy → SenderBuffers
  lent cs = record { sender = copies_encoding cs; passed = b.passed; count = b.count }

  -- ---- on the numbers of a world and of copies
  module _ (w : World) (cs : List Copy) (h : Settled seats w) (g : Copied seats cs) where
    send-is : (c : Call) (a : LeftWorld) → send_in c a (encoding w) (lent cs) ≡ record { left = a; sent = keep_sent (lent cs) (ran seats (sides_of 0 0) [] w c).number (send seats (sides_of 0 0) [] w cs c) }
    unfolding send_in passed_in
    send-is c a = rw (eq-eqb (length (encoding w)) world_count (encoding_proper w h).long, eq-eqb (length (copies_encoding cs)) sender_count (copied_long cs g), eq-eqb (length b.passed) passed_count f, decoding-encoding seats w h, copied_back cs g)

    step_is : send_step_in s ts (encoding w) b.told (lent cs) ≡ record { left = step_in s ts (encoding w) b.told; sent = keep_sent (lent cs) (ran seats s ts w Step).number (send seats s ts w cs Step) }
    unfolding send_step_in
    step_is = rw (eq-eqb (length (encoding w)) world_count (encoding_proper w h).long, eq-eqb (length b.told.records) records_count k, eq-eqb (length b.told.removed) seats m, eq-eqb (length (copies_encoding cs)) sender_count (copied_long cs g), eq-eqb (length b.passed) passed_count f, decoding-encoding seats w h, copied_back cs g)

  -- ---- a link
  record Held (l : Link) : Type 0 where
    linked : Linked seats s ts l
    fit : Fit seats l.screen

  copied : (l : Link) → Held l → Copied seats l.copies
  copied l h = subst (λ (z : Screen). Copied seats z.copies) h.linked.screen h.fit.copied

  module _ (l : Link) (h : Held l) where
    -- what the call c leaves of each
    sender-is : (c : Call) → (keep_sent (lent l.copies) (ran seats s ts l.world c).number (send seats s ts l.world l.copies c)).sender ≡ (link_numbers (called seats s ts l c)).sender
    sender-is c = sender-follows s ts b.used b.passed b.count l.screen l.copies (ran seats s ts l.world c).number (send seats s ts l.world l.copies c) (sent-refused seats s ts l c)

    abbrev sent_for : Call → SenderBuffers
    sent_for c = keep_sent (lent l.copies) (ran seats s ts l.world c).number (send seats s ts l.world l.copies c)

    screen_is : (c : Call) → arrived s ts b.used (left_by s ts b.told (encoding l.world) c).number (sent_for c) (screen_encoding l.screen) ≡ (link_numbers (called seats s ts l c)).screen
    screen_is c =
        ap (λ (number : ℕ). arrived s ts b.used number (sent_for c) (screen_encoding l.screen)) (one_number s ts b.told k m l.world c h.linked.settled)
        ∙ screen-follows s ts b.used b.passed b.count l.screen l.copies (ran seats s ts l.world c).number (send seats s ts l.world l.copies c) (sent-refused seats s ts l c) h.fit (sent_known s ts l.world l.copies c)

    world_is : (c : Call) → (left_by s ts b.told (encoding l.world) c).world ≡ encoding (ran seats s ts l.world c).world
    world_is c = one s ts b.told k m l.world c h.linked.settled

    -- after one call
    each_call : (c : Call) → link_left s ts b (link_numbers l) c ≡ link_numbers (called seats s ts l c)
    each_call (Join id u v) = let e = either_same (eqb (ran seats s ts l.world (Join id u v)).number 0) (send_nothing l.copies) in numbers_same (world_is (Join id u v)) (ap (λ (x : Sent). copies_encoding x.copies) e) (ap (λ (x : Sent). screen_encoding (receive_all seats s ts l.screen x.passed)) e)
    each_call (Leave id) = ap (after_send s ts b (link_numbers l)) (send-is l.world l.copies h.linked.settled (copied l h) (Leave id) (leave_in (encoding l.world) id)) ∙ numbers_same (world_is (Leave id)) (sender-is (Leave id)) (screen_is (Leave id))
    each_call (Input id d u v j i) = let e = either_same (eqb (ran seats s ts l.world (Input id d u v j i)).number 0) (send_nothing l.copies) in numbers_same (world_is (Input id d u v j i)) (ap (λ (x : Sent). copies_encoding x.copies) e) (ap (λ (x : Sent). screen_encoding (receive_all seats s ts l.screen x.passed)) e)
    each_call (Tune index z) = ap (after_send s ts b (link_numbers l)) (send-is l.world l.copies h.linked.settled (copied l h) (Tune index z) (tune_in (encoding l.world) index z)) ∙ numbers_same (world_is (Tune index z)) (sender-is (Tune index z)) (screen_is (Tune index z))
    each_call Step = ap (after_step s ts b (link_numbers l)) (step_is l.world l.copies h.linked.settled (copied l h)) ∙ numbers_same (world_is Step) (sender-is Step) (screen_is Step)

    next-held : (c : Call) → Held (called seats s ts l c)
    next-held c = record { linked = linked_next seats s ts l c h.linked; fit = received_fit seats s ts (send seats s ts l.world l.copies c).passed l.screen h.fit }

  -- after every list
  all_calls : (cs : List Call) (l : Link) → Held l → link_left_all s ts b (link_numbers l) cs ≡ link_numbers (called_all seats s ts l cs)
  all_calls [] l h = refl
  all_calls (c ∷ cs) l h = ap (λ (x : LinkNumbers). link_left_all s ts b x cs) (each_call l h c) ∙ all_calls cs (called seats s ts l c) (next-held l h c)

pub link_follows : LinkFollows
link_follows s ts b cs k m f = all_calls s ts b k m f cs (fresh_link seats) (record { linked = linked_first seats s ts; fit = fresh_fit })
