use Rattle.walter_disk_file.proofs.host_disk.HostDiskDisk.write_at.Goals as goal

pub returns-in-File-clause-crash : goal.returns-in-File-clause-crash
returns-in-File-clause-crash c = rw c.in-File.is c.write_at-in-File.ensures.crash
