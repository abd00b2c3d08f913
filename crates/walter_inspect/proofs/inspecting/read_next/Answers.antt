use Rattle.walter_inspect.proofs.inspecting.read_next.Goals as goal

pub returns-in-Ok-push-clause-next : goal.returns-in-Ok-push-clause-next
returns-in-Ok-push-clause-next g c =
    rw c.in-Ok.is (record {
      content = c.in-Ok-content.content;
      read = rw c.in-Ok-content.is at c.read_content-disk.ensures.read;
      behind = c.in-Ok-push.ensures.items;
    })
